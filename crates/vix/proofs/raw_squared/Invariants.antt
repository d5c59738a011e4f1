-- `vix::raw_squared` meets its contract. Assumes nothing.
use mathlib.Core.Path.{◌≡◌}
use Rattle.vix.specs.Form.{value_through}
use Rattle.vix.proofs.raw_squared.Given as goal

abbrev pub invariant-loop-i : goal.invariant-loop-i
invariant-loop-i l =
    l.value ≡ value_through l.fn.v l.factors l.i
