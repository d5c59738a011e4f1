-- `admission::prepare` meets its contract: one admission after the other. Assumes nothing.
use mathlib.Core.Path.{sym}
use Rattle.refusal.proofs.Laws.{exits}
use Rattle.admission.proofs.Admitting.{kernel_first, params_first, schedule_first, model_prepared}
use Rattle.admission.proofs.prepare.Goals as goal

pub returns-in_err-kernel : goal.returns-in_err-kernel
returns-in_err-kernel c =
    rw (exits _ _ c.from_residual.ensures.1) (kernel_first _ _ (sym c.in_err-kernel.ensures.outcome))

pub returns-in_err-initial : goal.returns-in_err-initial
returns-in_err-initial c =
    rw (exits _ _ c.from_residual-in_err-initial.ensures.1) (params_first _ _ c.in_ok-kernel.ensures _ c.in_err-initial.ensures)

pub returns-in_err-grid : goal.returns-in_err-grid
returns-in_err-grid c =
    rw (exits _ _ c.from_residual-in_err-grid.ensures.1)
    (schedule_first _ _ c.in_ok-kernel.ensures _ c.in_ok-initial.ensures _ c.in_err-grid.ensures)

pub returns : goal.returns
returns c =
    model_prepared _ _ c.in_ok-kernel.ensures _ c.in_ok-initial.ensures _ c.in_ok-grid.ensures
