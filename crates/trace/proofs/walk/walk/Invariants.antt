-- `trace::walk::walk` meets its contract. At the loop's head `at` steps are walked, none of which
-- stopped, and the points before `at` are written (`proofs/Turns.antt`). Assumes nothing.
use Rattle.trace.specs.Trace.{tables}
use Rattle.trace.proofs.Turns.{Walked}
use Rattle.trace.proofs.walk.walk.Given as goal

abbrev pub invariant-loop-at : goal.invariant-loop-at
invariant-loop-at l =
    Walked (record { kernel = l.kernel; params = l.params; start = l.initial.s; grid = l.grid })
    l.draws (tables l.initial.spots l.initial.variances l.initial.z l.initial.factors)
    (tables l.spots l.variances l.z l.factors) l.s l.segment l.rates l.at
