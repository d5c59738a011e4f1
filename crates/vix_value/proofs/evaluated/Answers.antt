-- `vix_value::evaluated` meets its contract: one admission after the other, and then the form at the
-- factors given. Assumes nothing.
use mathlib.Core.Path.{sym}
use Rattle.refusal.proofs.Laws.{exits}
use Rattle.vix_value.proofs.Evaluating.{kernel_first, params_first, refused_late, evaluated}
use Rattle.vix_value.proofs.evaluated.Goals as goal

pub returns-in_err-kernel : goal.returns-in_err-kernel
returns-in_err-kernel c =
    rw (exits _ _ c.from_residual.ensures.1) (kernel_first _ _ _ (sym c.in_err-kernel.ensures.outcome))

pub returns-in_err-initial : goal.returns-in_err-initial
returns-in_err-initial c =
    rw (exits _ _ c.from_residual-in_err-initial.ensures.1)
    (params_first _ _ _ c.in_ok-kernel.ensures _ c.in_err-initial.ensures)

pub returns-in_err-form : goal.returns-in_err-form
returns-in_err-form c =
    rw (exits _ _ c.from_residual-in_err-form.ensures.1)
    (refused_late _ _ _ c.in_ok-kernel.ensures _ c.in_ok-initial.ensures _ _ c.in_err-form.ensures)

pub returns : goal.returns
returns c =
    evaluated _ _ _ c.in_ok-kernel.ensures _ c.in_ok-initial.ensures _ _ c.in_ok-form.ensures _
    c.value_at.ensures
