-- Rule 15.4: the VIX evaluation call, its questions and its answer for all inputs. Definitions
-- only.
use Rattle.std.specs.Prelude.{◌≡◌, List, [], ◌∷◌, ◌++◌, ℕ, eqb, length, Float}
use Rattle.decimal.specs.declared.Decimal.{Decimal}
use Rattle.decimal.specs.Decimal.{value}
use Rattle.refusal.specs.declared.Refusal.TheVariants.{FactorCount}
use Rattle.refusal.specs.Questions.{Question, ask, first_no, each, once_asked, KeptUnlessPassed}
use Rattle.model.specs.declared.Model.{Model}
use Rattle.model.specs.Kernel.{kernel_of}
use Rattle.model.specs.Parameters.{params_of, factors_of}
use Rattle.admission.specs.Questions.{kernel_questions, factor_questions, params_questions}
use Rattle.vix.specs.Build.{vix_of}
use Rattle.vix.specs.Questions.{window_questions, form_questions}
use Rattle.vix.specs.Evaluation.{evaluation}
use Rattle.vix_value.specs.declared.Factors.{Factors}
use Rattle.vix_value.specs.declared.VixValue.{VixValue}
use Rattle.vix_value.specs.Answer.{refused_value, evaluated_value}

-- Rule 15.4: what it is given, a model without segments, a window, and the factors to evaluate at.
pub record VixInputs : Type 0 where
  pub weights : List Float
  pub discounts : List Float
  pub model : Model
  pub window : Decimal
  pub given : Factors

abbrev pub vix_inputs : List Float → List Float → Model → Decimal → Factors → VixInputs
vix_inputs weights discounts model window given =
    record {
      weights = weights;
      discounts = discounts;
      model = model;
      window = window;
      given = given;
    }

-- Rule 14.13: 10, n factors given; 1 of each.
unfoldable pub given_questions : ℕ → Factors → List Question
given_questions n given =
    (ask FactorCount (eqb given.count n) ∷ []) ++ each (factor_questions given.factors) n

-- Rule 15.4: 2 to 4, then 5 to 10 and 1
unfoldable pub initial_questions : VixInputs → List Question
unfolding kernel_questions params_questions
initial_questions i =
    kernel_questions i.weights i.discounts
    ++ params_questions (length i.weights) i.model

-- Rule 15.4: all but 23 and 24, of a workspace of so many doubles, in order.
unfoldable pub vix_questions : VixInputs → ℕ → List Question
unfolding initial_questions form_questions given_questions
vix_questions i workspace =
    initial_questions i
    ++ form_questions (kernel_of i.weights i.discounts) (params_of i.model) i.window
    workspace
    ++ given_questions (length i.weights) i.given

-- Rule 15.4: the answer, with a workspace of so many doubles lent.
unfoldable pub vix_call : VixInputs → ℕ → VixValue
unfolding vix_questions evaluation vix_of factors_of
vix_call i workspace =
    once_asked (first_no (vix_questions i workspace)) refused_value
    (evaluated_value
    (evaluation
    (vix_of (kernel_of i.weights i.discounts) (params_of i.model) (value i.window))
    (factors_of (length i.weights) i.given.factors)))

-- Rule 16.5: the questions up to 16. Once they are passed, the workspace is free.
unfoldable pub through_workspace : VixInputs → ℕ → List Question
unfolding initial_questions window_questions
through_workspace i workspace =
    initial_questions i ++ window_questions (length i.weights) i.window workspace

-- Rules 15.4 and 16.5: what the call answers, and what it leaves of the workspace that it is lent.
pub record VixValueAnswered (i : VixInputs) (lent after : List Float) (r : VixValue) : Type 0 where
  pub answer : r ≡ vix_call i (length lent)
  pub workspace : KeptUnlessPassed (first_no (through_workspace i (length lent))) lent after
