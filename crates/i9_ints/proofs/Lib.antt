pub mod Firsts
pub mod Choosing
pub mod TopBits
pub mod BestLines
pub mod WithoutBits
pub mod Storing
pub mod AfterRecords
