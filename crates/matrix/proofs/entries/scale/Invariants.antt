-- `scale` meets its contract: the entries before the index are those times the factor.
-- Assumes nothing.
use mathlib.Core.Path.{◌≡◌}
use Prim.Native.Nat.{ℕ, ◌≤◌, ◌<◌}
use lib.ListN.{get_or}
use lib.Ieee.{nan}
use Rattle.numeric.specs.Double.{times}
use Rattle.matrix.proofs.entries.scale.Given as goal

abbrev pub invariant-loop-x : goal.invariant-loop-x
invariant-loop-x l = record {
  done : (k : ℕ) → k < l.x-index → get_or l.m k nan ≡ times (get_or l.initial.m k nan) l.factor;
  rest : (k : ℕ) → l.x-index ≤ k → get_or l.m k nan ≡ get_or l.initial.m k nan;
}
