-- `square` meets its contract. Assumes nothing.
use mathlib.Core.Path.{◌≡◌}
use Rattle.exponential.specs.Exponential.{squared}
use Rattle.exponential.proofs.taylor.square.Given as goal

abbrev pub invariant-loop : goal.invariant-loop
invariant-loop l = l.value ≡ squared l.dim l.initial.value l.counter
