-- `copy` meets its contract: the entries before k are those of `from`. Assumes nothing.
use mathlib.Core.Path.{◌≡◌}
use Prim.Native.Nat.{ℕ, ◌<◌}
use lib.ListN.{length, get_or}
use lib.Ieee.{nan}
use Rattle.matrix.proofs.entries.copy.Given as goal

abbrev pub invariant-loop-k : goal.invariant-loop-k
invariant-loop-k l = record {
  long : length l.into ≡ length l.from;
  done : (j : ℕ) → j < l.k → get_or l.into j nan ≡ get_or l.from j nan;
}
