-- `qrh::qrh_convert` meets its contract: a Decimal that question 1 turns away has no nearest double.
-- Assumes nothing.
use mathlib.Core.Path.{sym, subst, ◌∙◌}
use mathlib.Core.Bool.{true≢false}
use Rattle.decimal.specs.Decimal.{ConvertsToNearest}
use Rattle.decimal.specs.Inner.Answers.{AnswersNearest}
use Rattle.qrh.proofs.qrh_convert.Goals as goal

pub returns-in-None-clause-nearest : goal.returns-in-None-clause-nearest
unfolding ConvertsToNearest
returns-in-None-clause-nearest c =
    let turned_away = subst (AnswersNearest _) c.in-None.is c.to_f64.ensures.nearest in
    λ z fits. absurd (true≢false (sym fits ∙ turned_away))
