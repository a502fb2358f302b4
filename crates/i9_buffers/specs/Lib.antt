pub mod SlotFiles
pub mod Line
pub mod Request
