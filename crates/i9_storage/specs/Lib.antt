pub mod Kept
pub mod Places
pub mod Words
pub mod Storage
