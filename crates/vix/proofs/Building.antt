-- What the questions of the form, and the exponential of the generator, leave. Assumes nothing.
use mathlib.Core.Path.{◌≡◌, refl, sym, ap, ◌∙◌, subst}
use mathlib.Core.Bool.{Bool, true, false}
use mathlib.Core.List.{List, [], ◌∷◌}
use Prim.Native.Nat.{ℕ, ◌*◌}
use borrow.Author.Tests.{eqb-true}
use lib.ListN.{length}
use lib.Ieee.{Float}
use Rattle.decimal.specs.declared.Decimal.{Decimal}
use Rattle.decimal.specs.Decimal.{value}
use Rattle.std.specs.Prelude.{Ok, Err, Option, Some}
use Rattle.std.specs.Bool.{then_some}
use Rattle.std.specs.Option.{ok_or}
use Rattle.refusal.specs.declared.Refusal.{Refusal}
use Rattle.refusal.specs.declared.Refusal.TheVariants.{Exponential}
use Rattle.refusal.specs.Questions.{passed, ask, first_no}
use Rattle.refusal.specs.Inner.Outcomes.{outcome_of}
use Rattle.refusal.proofs.Laws.{then, stops, passed_head, passed_tail}
use Rattle.refusal.proofs.Laws.{kept_same, kept_free}
use Rattle.model.specs.declared.Kernel.{Kernel}
use Rattle.model.specs.declared.Params.{Params}
use Rattle.exponential.specs.Exponential.{exponential}
use Rattle.exponential.specs.Inner.Workspace.{exponentiated, Holds}
use Rattle.matrix.specs.Inner.Workspace.{matrix_at}
use Rattle.generator_rows.specs.State.{dimension}
use Rattle.generator.specs.Generator.{generator}
use Rattle.vix.specs.declared.Vix.{Vix}
use Rattle.vix.specs.Build.{form_of, vix_of, moments_finite}
use Rattle.vix.specs.Questions.{window_questions, form_questions}
use Rattle.vix.specs.Inner.Form.{vix_in_use, FormPrepared}

pub workspace_right :
    (n : ℕ) (window : Decimal) (workspace : ℕ)
    → first_no (window_questions n window workspace) ≡ passed
    → workspace ≡ 5 * (dimension n * dimension n)
unfolding window_questions
workspace_right n window workspace e =
    eqb-true workspace (5 * (dimension n * dimension n))
    (passed_head _ _ (passed_tail _ _ (passed_tail _ _ e)))

-- what 17 makes of what the exponential answers
asked_by :
    (b : Bool) (s : ℕ)
    → outcome_of (ok_or (then_some b s) Exponential) ≡ first_no (ask Exponential b ∷ [])
unfolding first_no
asked_by true s = refl
asked_by false s = refl

form_of_lem :
    (k : Kernel) (p : Params) (window : Float)
    → form_of k.n window (exponential (dimension k.n) (generator k p window))
    ≡ vix_of k p window
unfolding vix_of
form_of_lem k p window = refl

module _ (k : Kernel) (p : Params) (window : Decimal) (lent : List Float) where
  -- 15, 1 or 16 gets a No
  pub refused_early :
      (x : Refusal)
      → first_no (window_questions k.n window (length lent)) ≡ Err x
      → FormPrepared k p window lent lent (Err x)
  unfolding form_questions
  refused_early x e =
      record {
        outcome = sym (stops (window_questions k.n window (length lent)) _ x e);
        ready = tt;
        workspace = kept_same (first_no (window_questions k.n window (length lent))) lent;
      }

  -- they are passed, and the workspace begins with the generator
  module _
      (right : first_no (window_questions k.n window (length lent)) ≡ passed)
      {span : Float} (converted : span ≡ value window) (before : List Float)
      (filled : matrix_at (dimension k.n) 0 before ≡ generator k p span)
    where
      of_generator : matrix_at (dimension k.n) 0 before ≡ generator k p (value window)
      of_generator = filled ∙ ap (generator k p) converted

      module _
          {dim : ℕ} (d : dim ≡ dimension k.n) {answer : Option ℕ}
          (told : answer ≡ exponentiated dim (matrix_at dim 0 before)) (after : List Float)
        where
          asked_is :
              outcome_of (ok_or answer Exponential)
              ≡ first_no (form_questions k p window (length lent))
          unfolding exponentiated moments_finite form_questions
          asked_is =
              ap (λ (a : Option ℕ). outcome_of (ok_or a Exponential))
              (told
              ∙ ap (λ (n : ℕ). exponentiated n (matrix_at n 0 before)) d
              ∙ ap (exponentiated (dimension k.n)) of_generator)
              ∙ asked_by (moments_finite k p (value window)) _
              ∙ sym (then (window_questions k.n window (length lent)) _ right)

          pub not_finite :
              (x : Refusal) → Err x ≡ ok_or answer Exponential
              → FormPrepared k p window lent after (Err x)
          not_finite x e =
              record {
                outcome = ap outcome_of e ∙ asked_is;
                ready = tt;
                workspace =
                    kept_free (first_no (window_questions k.n window (length lent))) lent after
                    right;
              }

          pub built :
              (v : Vix) (s : ℕ) → Ok s ≡ ok_or answer Exponential → answer ≡ Some s
              → Holds answer (matrix_at dim 0 after) (exponential dim (matrix_at dim 0 before))
              → vix_in_use v ≡ form_of k.n span (matrix_at (dimension k.n) 0 after)
              → FormPrepared k p window lent after (Ok v)
          built v s asked e h f =
              record {
                outcome = ap outcome_of asked ∙ asked_is;
                ready =
                    f
                    ∙ ap
                    (λ (w : Float). form_of k.n w (matrix_at (dimension k.n) 0 after))
                    converted
                    ∙ ap (form_of k.n (value window)) result
                    ∙ form_of_lem k p (value window);
                workspace =
                    kept_free (first_no (window_questions k.n window (length lent))) lent after
                    right;
              }
            where
              held : matrix_at dim 0 after ≡ exponential dim (matrix_at dim 0 before)
              held =
                  subst
                  (λ (x : Option ℕ).
                  Holds x (matrix_at dim 0 after) (exponential dim (matrix_at dim 0 before)))
                  e h

              result :
                  matrix_at (dimension k.n) 0 after
                  ≡ exponential (dimension k.n) (generator k p (value window))
              result =
                  subst
                  (λ (n : ℕ). matrix_at n 0 after ≡ exponential n (matrix_at n 0 before)) d held
                  ∙ ap (exponential (dimension k.n)) of_generator
