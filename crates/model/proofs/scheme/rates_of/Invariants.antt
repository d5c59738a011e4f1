-- `model::scheme::rates_of` meets its contract. Assumes nothing.
use Prim.Native.Nat.{ℕ, ◌<◌}
use mathlib.Core.Path.{◌≡◌}
use lib.ListN.{length, get_or}
use lib.Ieee.{nan}
use Rattle.numeric.specs.Double.{plus, times, one}
use Rattle.model.proofs.scheme.rates_of.Given as goal

abbrev pub invariant-loop-i : goal.invariant-loop-i
invariant-loop-i l =
    (length l.divisors ≡ 10) × ((j : ℕ) → j < l.i → get_or l.divisors j nan ≡ plus one (times (get_or l.k-inside.discounts j nan) l.dt))
