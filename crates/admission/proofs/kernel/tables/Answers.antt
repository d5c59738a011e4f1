use mathlib.Core.Path.{sym}
use native.Mathlib.Omega.{arith}
use Rattle.refusal.proofs.Laws.{each_none, exits}
use Rattle.admission.proofs.Entries.{kernel_refused, count_refused, entry_refused, entry_passed, kernel_prepared, few, same}
use Rattle.admission.proofs.kernel.tables.Goals as goal

pub returns-in_err-count_questions : goal.returns-in_err-count_questions
returns-in_err-count_questions c =
    rw (exits _ _ c.from_residual.ensures.1) (kernel_refused _ _ _ (count_refused _ _ _ (sym c.in_err-count_questions.ensures)))

pub loop-i-init : goal.loop-i-init
loop-i-init c = each_none _

pub bounds-discounts-i : goal.bounds-discounts-i
bounds-discounts-i c =
    omega (arith, same c.args.weights.now c.args.discounts.now (sym c.in_ok-count_questions.ensures))

pub returns-in_err-entry_questions : goal.returns-in_err-entry_questions
returns-in_err-entry_questions c =
    rw (exits _ _ c.from_residual-in_err-entry_questions.ensures.1)
    (kernel_refused _ _ _
    (entry_refused _ _ _ (sym c.in_ok-count_questions.ensures) c.loop-i.invariant _ (omega arith) (sym c.in_err-entry_questions.ensures)))

pub loop-i-preserved : goal.loop-i-preserved
loop-i-preserved c =
    entry_passed _ _ _ (sym c.in_ok-count_questions.ensures) c.loop-i.invariant (sym c.in_ok-entry_questions.ensures)

pub kept-requires : goal.kept-requires
kept-requires c = few _ _ (sym c.in_ok-count_questions.ensures)

pub kept-requires-2 : goal.kept-requires-2
kept-requires-2 c =
    let weights = c.args.weights.now in
    let discounts = c.args.discounts.now in
    let e = sym c.in_ok-count_questions.ensures in
    omega (arith, few weights discounts e, same weights discounts e)

pub returns : goal.returns
returns c =
    kernel_prepared _ _ _ (sym c.in_ok-count_questions.ensures) c.loop-i.invariant (omega arith) _ _ c.kept.ensures c.kept-2.ensures
