pub mod Laws
pub mod First
pub mod Stops
pub mod FiniteStates
pub mod Lowest
pub mod Containment
