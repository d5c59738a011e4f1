-- `exponential` meets its contract. Assumes nothing.
use mathlib.Core.Path.{sym, ◌∙◌}
use Rattle.exponential.proofs.Outcome.{told, stands, exponential_is}
use Rattle.exponential.proofs.exponential.Goals as goal

pub returns-clause-answer : goal.returns-clause-answer
returns-clause-answer c =
    let s = c.of_norm-scaling.ensures.squarings in
    let result = c.exponential_by.ensures ∙ exponential_is _ _ _ _ c.norm_1-norm.ensures s in
    c.then_some.ensures
    ∙ told _ _ _ _ _ _ c.norm_1-norm.ensures (sym c.is_finite.ensures ∙ c.if-not-is_finite.false)
    (sym c.is_finite-2.ensures ∙ c.if-not-is_finite-2.false) s result c.is_finite-3.ensures

pub returns-clause-result : goal.returns-clause-result
returns-clause-result c =
    let s = c.of_norm-scaling.ensures.squarings in
    let result = c.exponential_by.ensures ∙ exponential_is _ _ _ _ c.norm_1-norm.ensures s in
    stands c.is_finite-3.result c.of_norm-scaling.result.squarings _ _ _ c.then_some.ensures result
