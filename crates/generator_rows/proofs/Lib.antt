pub mod Pairs
pub mod Places
pub mod Appending
pub mod Entries
pub mod Additions
pub mod Order
