-- `norm_1` meets its contract. Assumes nothing.
use mathlib.Core.Path.{◌≡◌}
use Rattle.exponential.specs.Norm.{largest_sum}
use Rattle.exponential.proofs.norm.norm_1.Given as goal

abbrev pub invariant-loop-j : goal.invariant-loop-j
invariant-loop-j l = l.norm ≡ largest_sum l.dim l.m l.j
