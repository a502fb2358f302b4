pub mod SavedRecords
pub mod Switching
