-- What the lanes' own functions promise each other: no contract of an outer call mentions it.
pub mod Lanes
