pub mod Pieces
pub mod Landed
pub mod InRun
pub mod Paced
pub mod Shown
