pub mod State
pub mod Rows
pub mod Inner
