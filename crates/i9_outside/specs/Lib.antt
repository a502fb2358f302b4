pub mod Counts
pub mod Traits
pub mod Calls
pub mod MemFiles
pub mod MemSink
