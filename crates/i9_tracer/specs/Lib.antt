pub mod Closures
pub mod Trace
pub mod Until
