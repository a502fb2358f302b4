pub mod TextLines
pub mod Feeds
pub mod Prints
pub mod Lined
pub mod LineCounts
pub mod ClosedLines
pub mod PlaceBytes
