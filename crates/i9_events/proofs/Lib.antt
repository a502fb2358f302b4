pub mod Masks
pub mod Flags
pub mod Events
