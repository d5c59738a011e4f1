pub mod Payoff
pub mod Moments
pub mod Inner
