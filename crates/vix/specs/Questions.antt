-- Rule 14.8: the questions that are asked of the form. Definitions only.
use Rattle.std.specs.Prelude.{List, [], ◌∷◌, ◌++◌, ℕ, ◌*◌, eqb}
use Rattle.decimal.specs.declared.Decimal.{Decimal}
use Rattle.decimal.specs.Decimal.{is_positive, scale_fits, value}
use Rattle.refusal.specs.declared.Refusal.TheVariants.{Scale, Window, Workspace, Exponential}
use Rattle.refusal.specs.Questions.{Question, ask}
use Rattle.model.specs.declared.Kernel.{Kernel}
use Rattle.model.specs.declared.Params.{Params}
use Rattle.generator_rows.specs.State.{pairs_before, dimension}
use Rattle.vix.specs.Build.{moments_finite}

-- Rule 14.8: 15, the window positive; 1 of it; 16, the workspace of so many doubles
-- 5 × dimension² long
unfoldable pub window_questions : ℕ → Decimal → ℕ → List Question
unfolding pairs_before
window_questions n window workspace =
    ask Window (is_positive window)
    ∷ ask Scale (scale_fits window)
    ∷ ask Workspace (eqb workspace (5 * (dimension n * dimension n)))
    ∷ []

-- Rule 14.8: then 17, finite moments
unfoldable pub form_questions : Kernel → Params → Decimal → ℕ → List Question
unfolding window_questions moments_finite
form_questions k p window workspace =
    window_questions k.n window workspace
    ++ (ask Exponential (moments_finite k p (value window)) ∷ [])
