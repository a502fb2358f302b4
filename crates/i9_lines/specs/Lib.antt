pub mod Lines
pub mod Print
pub mod PlaceText
