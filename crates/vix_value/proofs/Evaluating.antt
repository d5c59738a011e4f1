-- The VIX evaluation call: what each refusal and the evaluation come to. Assumes nothing.
use mathlib.Core.Path.{◌≡◌, refl, sym, ap, subst, ◌∙◌}
use mathlib.Core.List.{List, ◌++◌}
use Prim.Native.Nat.{ℕ}
use lib.ListN.{length}
use lib.Ieee.{Float}
use Rattle.decimal.specs.Decimal.{value}
use Rattle.refusal.specs.declared.Refusal.{Refusal}
use Rattle.std.specs.Prelude.{Result, Ok, Err}
use Rattle.refusal.specs.Questions.{Question, Outcome, passed, first_no, once_asked}
use Rattle.refusal.specs.Questions.{KeptUnlessPassed}
use Rattle.refusal.specs.Inner.Outcomes.{outcome_of}
use Rattle.refusal.proofs.Laws.{then, stops, kept_same}
use Rattle.model.specs.declared.Kernel.{Kernel}
use Rattle.model.specs.declared.Params.{Params}
use Rattle.model.specs.Kernel.{kernel_of}
use Rattle.model.specs.Parameters.{params_of, factors_of}
use Rattle.model.specs.Inner.InUse.{kernel_in_use}
use Rattle.admission.specs.declared.params.Initial.{Initial}
use Rattle.admission.specs.Questions.{kernel_questions}
use Rattle.admission.specs.Inner.Admission.{KernelPrepared, ParamsPrepared}
use Rattle.admission.proofs.Admitting.{params_asked}
use Rattle.vix.specs.declared.Vix.{Vix}
use Rattle.vix.specs.declared.Evaluation.{Evaluation}
use Rattle.vix.specs.Build.{form_of, vix_of}
use Rattle.vix.specs.Questions.{window_questions, form_questions}
use Rattle.vix.specs.Evaluation.{evaluation}
use Rattle.vix.specs.Inner.Form.{vix_in_use, FormPrepared}
use Rattle.vix_value.specs.declared.Factors.{Factors}
use Rattle.vix_value.specs.Answer.{refused_value, value_of, of_no_path}
use Rattle.vix_value.specs.Call.{VixInputs, given_questions, initial_questions, vix_questions}
use Rattle.vix_value.specs.Call.{vix_call, through_workspace, VixValueAnswered}
use Rattle.vix_value.specs.Inner.Given.{value_at}

abbrev kernel_given : VixInputs → Kernel
kernel_given i = kernel_of i.weights i.discounts

abbrev raw_given : VixInputs → Params
raw_given i = params_of i.model

-- what is asked of the form
abbrev of_form : VixInputs → ℕ → List Question
of_form i size = form_questions (kernel_given i) (raw_given i) i.window size

-- the value of an outcome, where it is passed or not
value_once :
    (asked : Outcome) (e : Result Evaluation Refusal)
    → value_of (once_asked asked Err e) ≡ once_asked asked refused_value (value_of e)
value_once (Ok _) e = refl
value_once (Err r) e = refl

value_is :
    (form : Vix) (given : Factors)
    → value_of (value_at form given)
    ≡ once_asked (first_no (given_questions form.n given)) refused_value
    (value_of (of_no_path (evaluation form (factors_of form.n given.factors))))
unfolding value_at
value_is form given = value_once _ _

module _ (i : VixInputs) (lent : List Float) where
  abbrev early : List Question
  early = initial_questions i

  abbrev form_asked : List Question
  form_asked = of_form i (length lent)

  abbrev given_asked : List Question
  given_asked = given_questions (length i.weights) i.given

  -- 2 to 10 or 1 gets a No
  pub refused_early : (x : Refusal) → first_no early ≡ Err x
      → VixValueAnswered i lent lent (value_of (Err x))
  unfolding vix_call vix_questions
  refused_early x e =
      record {
        answer = rw (stops (early ++ form_asked) given_asked x (stops early form_asked x e));
        workspace = kept_same (first_no (through_workspace i (length lent))) lent;
      }

  pub kernel_first : (x : Refusal) → first_no (kernel_questions i.weights i.discounts) ≡ Err x
      → VixValueAnswered i lent lent (value_of (Err x))
  unfolding initial_questions
  kernel_first x e = refused_early x (stops _ _ x e)

  module _ (k : Kernel) (tables : KernelPrepared i.weights i.discounts (Ok k)) where
    pub params_first : (x : Refusal) → ParamsPrepared k i.model (Err x)
        → VixValueAnswered i lent lent (value_of (Err x))
    unfolding initial_questions
    params_first x e =
        refused_early x
        (then _ _ (sym tables.outcome) ∙ sym (params_asked tables i.model) ∙ sym e.outcome)

    module _ (p : Initial) (initial : ParamsPrepared k i.model (Ok p)) where
      passed_early : first_no early ≡ passed
      unfolding initial_questions
      passed_early =
          then _ _ (sym tables.outcome) ∙ sym (params_asked tables i.model) ∙ sym initial.outcome

      -- the admission of the form has answered
      module _
          (after : List Float) (r : Result Vix Refusal)
          (prepared : FormPrepared (kernel_in_use k) p.params i.window lent after r)
        where
          -- what admission did with the prepared model it did with the given one
          kept : KeptUnlessPassed (first_no (through_workspace i (length lent))) lent after
          unfolding through_workspace
          kept =
              subst (λ (o : Outcome). KeptUnlessPassed o lent after)
              (ap (λ (x : Kernel). first_no (window_questions x.n i.window (length lent)))
              tables.ready.in_use
              ∙ sym
              (then early (window_questions (length i.weights) i.window (length lent)) passed_early))
              prepared.workspace

          asked_through : first_no (early ++ form_asked) ≡ outcome_of r
          asked_through =
              then early _ passed_early
              ∙ sym
              (prepared.outcome
              ∙ ap (λ (x : Kernel). first_no (form_questions x p.params i.window (length lent)))
              tables.ready.in_use
              ∙ ap
              (λ (x : Params). first_no (form_questions (kernel_given i) x i.window (length lent)))
              initial.ready.params)

      pub refused_late :
          (after : List Float) (x : Refusal)
          → FormPrepared (kernel_in_use k) p.params i.window lent after (Err x)
          → VixValueAnswered i lent after (value_of (Err x))
      unfolding vix_call vix_questions
      refused_late after x prepared =
          record {
            answer =
                rw (stops (early ++ form_asked) given_asked x (asked_through after (Err x) prepared));
            workspace = kept after (Err x) prepared;
          }

      module _
          (after : List Float) (form : Vix)
          (prepared : FormPrepared (kernel_in_use k) p.params i.window lent after (Ok form))
        where
          form_is : vix_in_use form ≡ vix_of (kernel_given i) (raw_given i) (value i.window)
          form_is =
              prepared.ready
              ∙ ap (λ (x : Kernel). vix_of x p.params (value i.window)) tables.ready.in_use
              ∙ ap (λ (x : Params). vix_of (kernel_given i) x (value i.window))
              initial.ready.params

          pub evaluated :
              (e : Result Evaluation Refusal) → e ≡ value_at (vix_in_use form) i.given
              → VixValueAnswered i lent after (value_of e)
          unfolding vix_call vix_questions vix_of form_of
          evaluated e is =
              record {
                answer =
                    ap value_of (is ∙ ap (λ (v : Vix). value_at v i.given) form_is)
                    ∙ value_is (vix_of (kernel_given i) (raw_given i) (value i.window)) i.given
                    ∙ rw (then (early ++ form_asked) given_asked
                    (asked_through after (Ok form) prepared));
                workspace = kept after (Ok form) prepared;
              }
