-- `model::scheme::move_factors` meets its contract. Assumes nothing.
use Prim.Native.Nat.{ℕ, ◌<◌}
use mathlib.Core.Path.{◌≡◌}
use lib.ListN.{length, get_or}
use lib.Ieee.{nan}
use Rattle.numeric.specs.Double.{plus, over}
use Rattle.model.proofs.scheme.move_factors.Given as goal

abbrev pub invariant-loop-i : goal.invariant-loop-i
invariant-loop-i l =
    (length l.next ≡ 10) × ((j : ℕ) → j < l.i → get_or l.next j nan ≡ over (plus (get_or l.factors j nan) l.forcing) (get_or l.divisors j nan))
