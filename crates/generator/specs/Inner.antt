-- What the steps that write the generator promise each other: no contract of an outer call mentions
-- it.
pub mod Filling
