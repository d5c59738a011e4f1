mod Elements
mod Entries
pub mod Admitting
