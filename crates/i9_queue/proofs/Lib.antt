pub mod Bytes
pub mod Settled
pub mod Enqueued
pub mod Groups
pub mod Drained
pub mod Beside
