-- `add_multiple` meets its contract: the sums before the index have their product.
-- Assumes nothing.
use mathlib.Core.Path.{◌≡◌}
use Prim.Native.Nat.{ℕ, ◌≤◌, ◌<◌}
use lib.ListN.{get_or}
use lib.Ieee.{nan}
use Rattle.numeric.specs.Double.{plus, times}
use Rattle.matrix.proofs.product.add_multiple.Given as goal

abbrev pub invariant-loop-l : goal.invariant-loop-l
invariant-loop-l l = record {
  done : (k : ℕ) → k < l.l → get_or l.sums k nan
      ≡ plus (get_or l.initial.sums k nan) (times l.left (get_or l.right k nan));
  rest : (k : ℕ) → l.l ≤ k → get_or l.sums k nan ≡ get_or l.initial.sums k nan;
}
