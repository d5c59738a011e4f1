-- The coefficients of the quadratic form as contracts see them. Definitions only.
use Rattle.std.specs.Prelude.{ℕ, List, Float}

-- Rule 13.1: the scale, the constant, and the coefficients of n factors and of their pairs, in the
-- first places
pub record Coefficients : Type 0 where
  pub n : ℕ
  pub scale : Float
  pub constant : Float
  pub linear : List Float
  pub pairs : List Float
