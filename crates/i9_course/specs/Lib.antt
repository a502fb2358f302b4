pub mod NeedOf
pub mod Course
pub mod Kernel
pub mod PipelinedRun
