-- What functions that write rows promise each other: no contract of an outer call mentions it.
pub mod Appended
pub mod Order
