use native.Mathlib.Omega.{arith}
use Rattle.lanes.proofs.Moving.{lanes_stepped}
use Rattle.lanes.proofs.scheme.step_with.Goals as goal

pub returns : goal.returns
returns c =
    let a = c.args in
    let moved = c.move_factors-z in
    rw (← c.k.view_is)
    (lanes_stepped a.roots _ a.p a.s a.g a.rates _ _ _
    c.loop-l.forcing (rw (← c.k.view_is) at c.requires) moved.ensures
    (λ l h. c.loop-l.invariant.2 l (omega arith)) (λ l h. c.loop-l.invariant.3 l (omega arith))
    c.variances.ensures c.lower_of.ensures)
