pub mod Earlier
pub mod Stands
pub mod Trail
