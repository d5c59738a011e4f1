pub mod Claim
pub mod Reporting
pub mod Squared
pub mod Sizes
pub mod Asked
