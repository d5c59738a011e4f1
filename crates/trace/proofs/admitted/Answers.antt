-- `trace::admitted` meets its contract: one list of questions after the other. Assumes nothing.
use mathlib.Core.Path.{sym}
use Rattle.refusal.proofs.Laws.{exits}
use Rattle.trace.proofs.Admitting.{model_refused, tables_refused, trace_admitted}
use Rattle.trace.proofs.admitted.Goals as goal

pub returns-in_err-simulation : goal.returns-in_err-simulation
returns-in_err-simulation c =
    rw (exits _ _ c.from_residual.ensures.1) (model_refused _ _ _ _ c.in_err-simulation.ensures)

pub returns-in_err-table_questions : goal.returns-in_err-table_questions
returns-in_err-table_questions c =
    rw (exits _ _ c.from_residual-in_err-table_questions.ensures.1)
    (tables_refused _ _ _ _ c.in_ok-simulation.ensures _ (rw (← c.kernel.view_is) (sym c.in_err-table_questions.ensures)))

pub returns : goal.returns
returns c =
    trace_admitted _ _ _ _ c.in_ok-simulation.ensures (rw (← c.kernel.view_is) (sym c.in_ok-table_questions.ensures))
