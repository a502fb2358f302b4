pub mod Loops
pub mod Seven
pub mod AllOpen
pub mod Early
