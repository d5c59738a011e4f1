pub mod Norm
pub mod Exponential
pub mod Inner
