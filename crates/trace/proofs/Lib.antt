mod Points
mod Turns
mod Tables
mod Admitting
