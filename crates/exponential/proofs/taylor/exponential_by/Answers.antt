-- `exponential_by` meets its contract. Assumes nothing.
use mathlib.Core.Path.{◌∙◌}
use Rattle.exponential.proofs.Outcome.{chained}
use Rattle.exponential.proofs.taylor.exponential_by.Goals as goal

pub returns : goal.returns
returns c =
    let long =
    c.square.auto.value ∙ c.horner.auto.value ∙ c.start.auto.value
    ∙ c.split_at_mut-value.ensures.front_len in
    chained _ _ _ _ _ _ _ _ _ long c.split_at_mut-value.ensures.front c.args.scaling.halved
    c.start.ensures.argument c.horner.ensures c.square.ensures
