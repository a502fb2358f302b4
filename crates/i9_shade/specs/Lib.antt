pub mod Shade
