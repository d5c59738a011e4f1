pub mod Norms
pub mod Series
pub mod Powers
pub mod Least
pub mod Outcome
