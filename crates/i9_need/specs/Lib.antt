pub mod Known
pub mod Fixed
