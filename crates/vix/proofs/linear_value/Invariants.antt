-- `vix::linear_value` meets its contract. Assumes nothing.
use mathlib.Core.Path.{◌≡◌}
use Rattle.vix.specs.Form.{linear_value}
use Rattle.vix.proofs.linear_value.Given as goal

abbrev pub invariant-loop-i : goal.invariant-loop-i
invariant-loop-i l =
    l.value ≡ linear_value l.fn.v l.factors l.i
