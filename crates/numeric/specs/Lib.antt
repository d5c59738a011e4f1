pub mod Double
pub mod Root
pub mod Correct
pub mod Table
pub mod Inner
