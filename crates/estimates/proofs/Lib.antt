pub mod Values
pub mod Tallying
