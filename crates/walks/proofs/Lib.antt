pub mod Cells
pub mod Flags
pub mod Handed
pub mod Absorbing
pub mod Fallen
