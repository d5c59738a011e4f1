-- `model::scheme::read` meets its contract. Assumes nothing.
use Rattle.model.proofs.Laws.{read_take}
use Rattle.model.proofs.scheme.read.Goals as goal

pub returns : goal.returns
returns c =
    read_take _ _ _ _ _ _ _ c.weighted_sum-z.ensures c.variance_at-variance.ensures
