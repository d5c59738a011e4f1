-- `vix::row_value` meets its contract. Assumes nothing.
use mathlib.Core.Path.{◌≡◌}
use Rattle.vix.specs.Form.{row_value}
use Rattle.vix.proofs.row_value.Given as goal

abbrev pub invariant-loop-k : goal.invariant-loop-k
invariant-loop-k l =
    l.value ≡ row_value l.fn.v l.factors l.i l.before l.k
