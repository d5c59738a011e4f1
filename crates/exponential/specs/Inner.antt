-- What the steps of the exponential promise each other: no contract of an outer call mentions it.
pub mod Workspace
