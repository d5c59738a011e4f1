pub mod Generator
pub mod Inner
