pub mod Places
pub mod Products
pub mod Table
