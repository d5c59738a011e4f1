-- `model::scheme::weighted_sum` meets its contract. Assumes nothing.
use mathlib.Core.Path.{◌≡◌}
use Rattle.model.specs.Step.{weighted_sum}
use Rattle.model.proofs.scheme.weighted_sum.Given as goal

abbrev pub invariant-loop-i : goal.invariant-loop-i
invariant-loop-i l =
    l.sum ≡ weighted_sum l.k.weights l.factors l.i
