use mathlib.Core.Path.{◌≡◌, refl, sym, ◌∙◌}
use native.Mathlib.Omega.{arith}
use borrow.Author.Tests.{leb-true}
use Rattle.std.proofs.lemmas.Result.{err_from_is_err_and}
use Rattle.refusal.proofs.Laws.{yes}
use Rattle.schedule.proofs.Laying.{schedule_refused, none_refused, many_refused, laying_none, segment_refused, laying_more, schedule_prepared}
use Rattle.schedule.proofs.from_segments.Goals as goal

pub returns-in_err-ensure : goal.returns-in_err-ensure
returns-in_err-ensure c =
    let p = err_from_is_err_and c.from_residual.result c.from_residual.ensures.1 in
    rw (p.1, p.2) (schedule_refused _ _ (none_refused _ _ c.in_err-ensure.ensures))

pub returns-in_err-ensure-2 : goal.returns-in_err-ensure-2
returns-in_err-ensure-2 c =
    let p = err_from_is_err_and c.from_residual-in_err-ensure-2.result c.from_residual-in_err-ensure-2.ensures.1 in
    rw (p.1, p.2) (schedule_refused _ _ (many_refused _ _ c.in_ok-ensure.ensures c.in_err-ensure-2.ensures))

pub loop-i-init : goal.loop-i-init
loop-i-init c =
    laying_none _ _ _ _ (leb-true _ _ (yes _ c.in_ok-ensure.ensures)) (leb-true _ _ (yes _ c.in_ok-ensure-2.ensures)) refl refl refl

pub returns-in_err-segment_questions : goal.returns-in_err-segment_questions
returns-in_err-segment_questions c =
    let p = err_from_is_err_and c.from_residual-in_err-segment_questions.result c.from_residual-in_err-segment_questions.ensures.1 in
    rw (p.1, p.2) (schedule_refused _ _ (segment_refused _ _ _ _ _ _ c.loop-i.invariant c.loop-i-test.true _ (sym c.in_err-segment_questions.ensures)))

pub loop-i-preserved : goal.loop-i-preserved
loop-i-preserved c =
    laying_more _ _ _ _ _ _ c.loop-i.invariant c.loop-i-test.true _ _ c.value-converted.ensures c.sqrt.ensures.root (sym c.in_ok-segment_questions.ensures)

pub returns : goal.returns
returns c =
    schedule_prepared _ _ _ _ _ _ c.loop-i.invariant (omega arith)
