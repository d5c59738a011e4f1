-- `model::scheme::step` meets its contract. Assumes nothing.
use mathlib.Core.Path.{◌∙◌}
use Rattle.model.proofs.Laws.{step_take}
use Rattle.model.proofs.scheme.step.Goals as goal

pub returns : goal.returns
returns c =
    let a = c.args in
    let own = rw (← c.k.view_is) at c.requires in
    c.read.ensures
    ∙ rw (← c.k.view_is)
    (step_take _ a.p a.s a.g a.rates.now _ c.k.invariant own _ _ c.sqrt.ensures.root
    c.min.ensures c.move_factors-next.ensures)
