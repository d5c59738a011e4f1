pub mod Stops
pub mod Turns
pub mod Whole
pub mod Groups
