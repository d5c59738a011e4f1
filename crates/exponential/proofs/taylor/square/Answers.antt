use mathlib.Core.Path.{refl, ◌∙◌}
use Rattle.exponential.specs.Exponential.{squared}
use Rattle.exponential.proofs.Series.{squared_more}
use Rattle.exponential.proofs.taylor.square.Goals as goal

pub loop-init : goal.loop-init
unfolding squared
loop-init c = refl

pub loop-preserved : goal.loop-preserved
loop-preserved c =
    squared_more _ _ _ _ _ c.loop.invariant
    (c.copy.ensures ∙ c.multiply.ensures)
