pub mod Questions
pub mod Report
pub mod Claim
pub mod Answered
pub mod Inner
