-- `vix_lanes::add_pairs` meets its contract. Assumes nothing.
use mathlib.Core.Path.{◌≡◌}
use Prim.Native.Nat.{ℕ, ◌+◌, ◌-◌, ◌≤◌, ◌<◌}
use lib.ListN.{get_or}
use lib.Ieee.{nan}
use Rattle.vix.specs.declared.Vix.{Vix}
use Rattle.vix.specs.Form.{row_value}
use Rattle.lanes.specs.Inner.Lanes.{lane_factors}
use Rattle.vix_lanes.proofs.add_pairs.Given as goal

abbrev pub invariant-loop-m : goal.invariant-loop-m
invariant-loop-m l =
    (l.first + (l.n - l.i) ≤ 55)
    × ((v : Vix) (j : ℕ) → v.n ≡ l.n → v.pairs ≡ l.pairs → j < 4 → get_or l.sum j nan ≡ row_value v (lane_factors l.n l.factors j) l.i (get_or l.initial.sum j nan) l.m)
