pub mod Kept
pub mod LiveFrames
pub mod Undone
