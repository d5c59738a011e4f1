pub mod Zero
pub mod Value
mod Words
mod Fives
mod Rounding
mod Scaled
mod Pattern
mod Whole
mod Bounds
