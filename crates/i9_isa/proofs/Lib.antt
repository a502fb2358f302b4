pub mod Names
pub mod Decoding
pub mod Sets
pub mod Moved
