-- `vix_lanes::squared` meets its contract. Assumes nothing.
use mathlib.Core.Path.{◌≡◌}
use Prim.Native.Nat.{ℕ, ◌<◌}
use lib.ListN.{get_or}
use lib.Ieee.{nan}
use Rattle.vix.specs.Form.{value_through}
use Rattle.lanes.specs.Inner.Lanes.{lane_factors}
use Rattle.vix_lanes.proofs.squared.Given as goal

abbrev pub invariant-loop-i : goal.invariant-loop-i
invariant-loop-i l =
    (j : ℕ) → j < 4
    → get_or l.value j nan ≡ value_through l.form (lane_factors l.form.n l.factors j) l.i
