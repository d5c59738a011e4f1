-- What the code prepares for a segment, and the factors that it moves with that. Definitions only.
use Rattle.std.specs.Prelude.{◌≡◌, List, ℕ, ◌<◌, get_or, length, Float}
use Rattle.std.specs.Float.{nan}
use Rattle.numeric.specs.Double.{plus, times, over, one}
use Rattle.model.specs.declared.Kernel.{Kernel}
use Rattle.model.specs.declared.Rates.{Rates}

-- Rule 7.3: dt, sqrt_dt, and 1 + (discount × dt) for each discount, which is the same double at
-- each step of a segment
pub record RatesOf (k : Kernel) (dt sqrt_dt : Float) (r : Rates) : Type 0 where
  pub dt_is : r.dt ≡ dt
  pub sqrt_dt_is : r.sqrt_dt ≡ sqrt_dt
  pub divisor : (i : ℕ) → i < k.n
      → get_or r.divisors i nan ≡ plus one (times (get_or k.discounts i nan) dt)

-- Rule 7.3: the first n factors after a step
pub record Moved (n : ℕ) (factors : List Float) (forcing : Float) (divisors next : List Float)
    : Type 0 where
  pub long : length next ≡ 10
  pub entry : (i : ℕ) → i < n
      → get_or next i nan ≡ over (plus (get_or factors i nan) forcing) (get_or divisors i nan)
