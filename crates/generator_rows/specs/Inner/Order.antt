-- The law of the places of the state. Definitions only.
use Rattle.std.specs.Prelude.{◌≡◌, ℕ, ◌+◌, ◌*◌, ◌/◌, ◌≤◌, ◌<◌, length, get_or, Float, List}
use Rattle.std.specs.Float.{nan}
use Rattle.generator_rows.specs.State.{pair_at, integral_at, constant_at, dimension}

-- The law of these places: in a row over the state each of them holds what belongs there, and the
-- row is as long as n means, n × (n + 1) / 2 pairs, the integral and the constant.
pub record InOrder (n : ℕ) (mean : ℕ → Float) (pair : ℕ → ℕ → Float) (integral constant : Float)
    (row : List Float) : Type 0 where
  pub mean_at : (i : ℕ) → i < n → get_or row i nan ≡ mean i
  pub pair_place : (i j : ℕ) → i ≤ j → j < n → get_or row (pair_at n i j) nan ≡ pair i j
  pub same_pair : (i j : ℕ) → pair_at n j i ≡ pair_at n i j
  pub integral_place : get_or row (integral_at n) nan ≡ integral
  pub constant_place : get_or row (constant_at n) nan ≡ constant
  pub long : length row ≡ dimension n
  pub dimension_is : dimension n ≡ n + n * (n + 1) / 2 + 2
