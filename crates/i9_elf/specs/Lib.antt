pub mod Files
pub mod ImageReading
pub mod Images
pub mod Reading
pub mod Written
