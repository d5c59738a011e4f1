pub mod Columns
pub mod Tallying
