pub mod Bits
pub mod Live
pub mod Marks
pub mod Page
pub mod Watch
