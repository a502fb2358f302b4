pub mod Marking
pub mod Watching
pub mod Runs
pub mod SetBits
