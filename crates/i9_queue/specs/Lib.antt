pub mod Queue
pub mod Waits
pub mod Behind
pub mod Values
pub mod Lending
