-- Kernel tables as contracts see them. Definitions only.
use Rattle.std.specs.Prelude.{ℕ, List, Float}

-- Rule 5.2: n weights and n discounts, in the first n places
pub record Tables : Type 0 where
  pub n : ℕ
  pub weights : List Float
  pub discounts : List Float
