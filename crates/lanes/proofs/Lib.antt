pub mod Four
pub mod Moving
