-- `is_finite` meets its contract. Assumes nothing.
use Rattle.std.proofs.Common.{rules, tests}
use Rattle.std.proofs.lemmas.Iterator.{YieldsList-from_slice}
use Rattle.std.proofs.lemmas.Iterator.Search.{all_from_yields_List}
use Rattle.matrix.specs.Matrix.{all_finite}
use Rattle.matrix.proofs.entries.is_finite.Goals as goal

pub returns : goal.returns
unfolding all_finite
returns c =
    all_from_yields_List _ _ _ _ c.all.ensures.ran (YieldsList-from_slice c.args.m.now cc)
    (λ x b q k. search (rules, tests))
