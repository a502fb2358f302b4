pub mod Switches
