pub mod Session
pub mod Driven
pub mod Last
