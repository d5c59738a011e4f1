pub mod Matrix
pub mod Inner
