-- `lanes::spread` meets its contract. Assumes nothing.
use Prim.Native.Nat.{ℕ, ◌<◌}
use mathlib.Core.Path.{◌≡◌}
use lib.ListN.{length, get_or}
use lib.Ieee.{nan}
use Rattle.lanes.specs.Inner.Lanes.{factor_at}
use Rattle.lanes.proofs.spread.Given as goal

abbrev pub invariant-loop-i : goal.invariant-loop-i
invariant-loop-i l =
    (length l.factors ≡ 10) × ((j k : ℕ) → j < l.i → k < 4 → factor_at l.factors j k ≡ get_or l.values j nan)
