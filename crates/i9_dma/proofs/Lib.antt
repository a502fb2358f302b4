pub mod Planned
pub mod Placing
