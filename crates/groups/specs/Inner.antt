-- What the walk of four and its functions promise to the loop that calls it: no contract of an
-- outer call mentions it.
pub mod Group
