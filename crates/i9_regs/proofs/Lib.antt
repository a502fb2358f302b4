pub mod Groups
pub mod Rows
pub mod Issued
pub mod Framed
pub mod Shown
