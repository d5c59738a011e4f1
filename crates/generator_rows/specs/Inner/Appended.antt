-- What a list that is written from the front on says of what was written. Definitions only.
use Rattle.std.specs.Prelude.{◌≡◌, List, ◌++◌, ℕ, ◌+◌, length, take, Float}

-- `new` is written at `at`, and what was before that place is as it was
pub record Appended (at : ℕ) (new before after : List Float) : Type 0 where
  pub front : take (at + length new) after ≡ take at before ++ new
