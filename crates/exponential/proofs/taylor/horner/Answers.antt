use Rattle.exponential.specs.Exponential.{horner}
use Rattle.exponential.proofs.Series.{degree_more}
use Rattle.exponential.proofs.taylor.horner.Goals as goal

pub loop-degree-init : goal.loop-degree-init
unfolding horner
loop-degree-init c = c.requires.begun

pub loop-degree-preserved : goal.loop-degree-preserved
loop-degree-preserved c =
    degree_more _ _ _ _ _ c.loop-degree-test.true c.loop-degree.auto.degree c.loop-degree.invariant
    c.step.ensures
