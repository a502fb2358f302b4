pub mod Appending
pub mod Failing
