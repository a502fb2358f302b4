pub mod Names
pub mod Moved
pub mod Planned
pub mod Open
pub mod Kept
pub mod Plain
