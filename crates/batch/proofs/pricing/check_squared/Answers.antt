use mathlib.Core.Path.{sym, ◌∙◌}
use native.Mathlib.Numerals.{add-one}
use Rattle.refusal.proofs.Laws.{each_none, each_more, each_stops, exits}
use Rattle.batch.proofs.pricing.check_squared.Goals as goal

pub loop-path-init : goal.loop-path-init
loop-path-init c = each_none _

pub returns-in_err-squared_questions : goal.returns-in_err-squared_questions
returns-in_err-squared_questions c =
    let here = rw (c.last_observation-squared.ensures, add-one) at c.in_err-squared_questions.ensures in
    exits _ _ c.from_residual.ensures.1
    ∙ sym (each_stops _ c.loop-path.path _ _ c.loop-path-test.true c.loop-path.invariant (sym here))

pub loop-path-preserved : goal.loop-path-preserved
loop-path-preserved c =
    let here = rw (c.last_observation-squared.ensures, add-one) at c.in_ok-squared_questions.ensures in
    each_more _ c.loop-path.path c.loop-path.invariant (sym here)
