pub mod Callers
pub mod Controls
pub mod Kinds
pub mod Switches
