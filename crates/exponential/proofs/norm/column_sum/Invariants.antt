-- `column_sum` meets its contract. Assumes nothing.
use mathlib.Core.Path.{◌≡◌}
use Rattle.exponential.specs.Norm.{column_sum}
use Rattle.exponential.proofs.norm.column_sum.Given as goal

abbrev pub invariant-loop-i : goal.invariant-loop-i
invariant-loop-i l = l.sum ≡ column_sum l.dim l.m l.column l.i
