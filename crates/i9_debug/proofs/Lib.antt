pub mod Places
pub mod Stepwise
pub mod Turns
pub mod Stops
pub mod Lasts
pub mod Returning
pub mod Commands
