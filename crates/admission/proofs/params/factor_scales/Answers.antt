use mathlib.Core.Path.{◌≡◌, sym, ap, ◌∙◌}
use mathlib.Core.List.{[]}
use Prim.Native.Nat.{ℕ}
use native.Mathlib.Omega.{arith}
use Rattle.refusal.specs.Questions.{first_no, each}
use Rattle.refusal.proofs.Laws.{each_none, each_more, each_stops, exits, stopped, went_on}
use Rattle.admission.specs.Questions.{factor_questions}
use Rattle.admission.proofs.params.factor_scales.Goals as goal

pub loop-i-init : goal.loop-i-init
loop-i-init c = each_none _

pub returns-in_err-ensure : goal.returns-in_err-ensure
returns-in_err-ensure c =
    exits _ _ c.from_residual.ensures.1
    ∙ sym (each_stops _ c.loop-i.i _ _ (omega arith) c.loop-i.invariant (stopped _ _ _ (rw c.scale_fits.ensures at c.in_err-ensure.ensures)))

pub loop-i-preserved : goal.loop-i-preserved
unfolding first_no
loop-i-preserved c =
    each_more _ c.loop-i.i c.loop-i.invariant (went_on _ [] (rw c.scale_fits.ensures at c.in_ok-ensure.ensures))

pub returns : goal.returns
returns c =
    let end : c.args.n ≡ c.loop-i.i = omega arith in
    sym (ap (λ (k : ℕ). first_no (each (factor_questions c.args.factors) k)) end ∙ c.loop-i.invariant)
