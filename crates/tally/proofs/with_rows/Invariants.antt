-- `tally::with_rows` meets its contract. Assumes nothing.
use mathlib.Core.Path.{◌≡◌}
use Rattle.tally.specs.Inner.Rows.{with_rows}
use Rattle.tally.proofs.with_rows.Given as goal

abbrev pub invariant-loop-i : goal.invariant-loop-i
invariant-loop-i l =
    l.sum ≡ with_rows l.initial.sum l.payoff l.observed l.rows l.count l.lowest l.i
