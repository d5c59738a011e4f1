-- `vix_lanes::linear_values` meets its contract. Assumes nothing.
use mathlib.Core.Path.{◌≡◌}
use Prim.Native.Nat.{ℕ, ◌<◌}
use lib.ListN.{get_or}
use lib.Ieee.{nan}
use Rattle.vix.specs.declared.Vix.{Vix}
use Rattle.vix.specs.Form.{linear_value}
use Rattle.lanes.specs.Inner.Lanes.{lane_factors}
use Rattle.vix_lanes.proofs.linear_values.Given as goal

abbrev pub invariant-loop-i : goal.invariant-loop-i
invariant-loop-i l =
    (v : Vix) (j : ℕ) → v.constant ≡ l.constant → v.linear ≡ l.linear → j < 4 → get_or l.value j nan ≡ linear_value v (lane_factors l.n l.factors j) l.i
