pub mod Coefficients
pub mod Form
pub mod Build
pub mod Questions
pub mod Evaluation
pub mod Inner
