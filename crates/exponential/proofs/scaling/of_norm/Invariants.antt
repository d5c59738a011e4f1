-- `of_norm` meets its contract: the search goes on where the bound is below the norm.
-- Assumes nothing.
use Prim.Native.Nat.{◌-◌}
use Rattle.exponential.proofs.Powers.{Searching}
use Rattle.exponential.proofs.scaling.of_norm.Given as goal

abbrev pub invariant-loop-bound : goal.invariant-loop-bound
invariant-loop-bound l =
    Searching l.norm l.squarings l.factor l.bound

abbrev pub decreases-loop-bound : goal.decreases-loop-bound
decreases-loop-bound l =
    1024 - l.squarings
