-- What the call's own functions promise each other: no contract of an outer call mentions it.
pub mod Given
