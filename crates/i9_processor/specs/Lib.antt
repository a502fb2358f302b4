pub mod State
pub mod Rest
pub mod Effect
pub mod Tracing
pub mod Issued
pub mod Acts
pub mod Pages
pub mod Entries
