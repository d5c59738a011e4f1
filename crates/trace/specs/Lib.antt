pub mod Trace
pub mod Call
pub mod Inner
