pub mod Channels
pub mod Units
