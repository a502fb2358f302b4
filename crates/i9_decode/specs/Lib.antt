pub mod Look
pub mod Spelling
pub mod Ignored
