-- What functions over matrices promise each other: no contract of an outer call mentions it.
pub mod Row
pub mod Workspace
