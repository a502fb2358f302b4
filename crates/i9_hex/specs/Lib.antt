pub mod Lines
pub mod Pairs
pub mod Put
pub mod Reading
pub mod Runs
pub mod Shown
pub mod Writing
