-- `lanes::scheme::move_factors` meets its contract. Assumes nothing.
use mathlib.Core.Path.{◌≡◌}
use lib.ListN.{length}
use Rattle.lanes.proofs.Moving.{Going}
use Rattle.lanes.proofs.scheme.move_factors.Given as goal

abbrev pub invariant-loop-i : goal.invariant-loop-i
invariant-loop-i l =
    (length l.factors ≡ 10) × Going l.i l.forcing l.divisors l.weights l.initial.factors l.factors l.z
