-- `fill_row` meets its contract: the loop ends where every column is filled. Assumes nothing.
use Prim.Native.Nat.{◌-◌}
use Rattle.matrix.specs.Inner.Row.{Filled}
use Rattle.matrix.proofs.product.Factors.fill_row.Given as goal

abbrev pub invariant-loop-j : goal.invariant-loop-j
invariant-loop-j l = Filled l.self l.row l.j

abbrev pub decreases-loop-j : goal.decreases-loop-j
decreases-loop-j l = l.self.dim - l.j
