pub mod Accepted
pub mod Generator
