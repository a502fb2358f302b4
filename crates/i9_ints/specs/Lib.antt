pub mod Ints
pub mod Best
pub mod After
