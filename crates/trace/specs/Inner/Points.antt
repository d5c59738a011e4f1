-- What the functions that write a trace's points ask and leave. Definitions only.
use Rattle.std.specs.Prelude.{◌≡◌, List, ℕ, ◌+◌, ◌*◌, ◌≤◌, ◌<◌, length, get_or, set, Float}
use Rattle.std.specs.Float.{nan}
use Rattle.model.specs.declared.State.{State}
use Rattle.trace.specs.Trace.{Tables}

-- tables of total + 1 points with n factors
pub record Sized (total n : ℕ) (t : Tables) : Type 0 where
  pub spots : length t.spots ≡ total + 1
  pub variances : length t.variances ≡ total + 1
  pub z : length t.z ≡ total + 1
  pub factors : length t.factors ≡ (total + 1) * n

-- `after` is `before` with the first n of `values` from place `base` on
pub record Written (base n : ℕ) (values before after : List Float) : Type 0 where
  pub front : (x : ℕ) → x < base → get_or after x nan ≡ get_or before x nan
  pub new : (i : ℕ) → i < n → get_or after (base + i) nan ≡ get_or values i nan
  pub back : (x : ℕ) → base + n ≤ x → get_or after x nan ≡ get_or before x nan

-- the tables with the state as the point of that number
pub record PointWritten (n : ℕ) (s : State) (point : ℕ) (before after : Tables) : Type 0 where
  pub spots : after.spots ≡ set before.spots point s.spot
  pub variances : after.variances ≡ set before.variances point s.variance
  pub z : after.z ≡ set before.z point s.z
  pub factors : Written (point * n) n s.factors before.factors after.factors
