-- The VIX batch: its questions, its answer and its claim, for all inputs. Definitions only.
use Rattle.std.specs.Prelude.{false, cond, List, [], ◌∷◌, ◌++◌, ℕ, length, Float}
use Rattle.decimal.specs.Decimal.{value}
use Rattle.refusal.specs.Questions.{Question, first_no, KeptUnlessPassed}
use Rattle.model.specs.Parameters.{start_of}
use Rattle.model.specs.TimeGrid.{grid_of}
use Rattle.model.specs.Simulation.{Given, simulation_of}
use Rattle.admission.specs.Questions.{model_questions}
use Rattle.vix.specs.declared.Vix.{Vix}
use Rattle.vix.specs.Form.{raw_squared}
use Rattle.vix.specs.Build.{vix_of}
use Rattle.vix.specs.Questions.{window_questions, form_questions}
use Rattle.walks.specs.declared.Observed.TheVariants.{VixSquared}
use Rattle.walks.specs.Batch.{Batch, batch_on}
use Rattle.estimates.specs.declared.Payoff.{Payoff}
use Rattle.estimates.specs.declared.Payoff.TheVariants.{Future}
use Rattle.batch.specs.Questions.{strike_questions, style_of, vanilla_at}
use Rattle.batch.specs.Questions.{path_questions, batch_questions}
use Rattle.batch.specs.Claim.{BatchAnswer}
use Rattle.batch.specs.Answered.{BatchAnswered}
use Rattle.vix_batch.specs.declared.VixPayoff.{VixPayoff}
use Rattle.vix_batch.specs.declared.Order.{Order}
use Rattle.vix_batch.specs.declared.VixEstimate.{VixEstimate}

-- Rule 15.5: a model, an order and draws
pub record VixBatchInputs : Type 0 where
  pub given : Given
  pub order : Order
  pub draws : List Float

abbrev pub vix_batch_inputs : Given → Order → List Float → VixBatchInputs
vix_batch_inputs given order draws = record { given = given; order = order; draws = draws }

-- Rule 13.6: a future, or a call or a put at its strike
abbrev pub payoff_for : VixPayoff → Payoff
payoff_for p = cond p.future Future (vanilla_at (style_of p.put) p.strike)

-- Rule 14.9: of a future no strike is asked
abbrev pub payoff_questions : VixPayoff → List Question
payoff_questions p = cond p.future [] (strike_questions p.strike)

-- Rule 15.5: those of the model, of the form, of the payoff and of the batch, with a workspace and
-- a table of so many doubles lent
unfoldable pub vix_batch_questions : VixBatchInputs → ℕ → ℕ → List Question
unfolding model_questions form_questions path_questions start_of grid_of
vix_batch_questions i workspace lent =
    let s = simulation_of i.given in
    model_questions i.given
    ++ form_questions s.kernel s.params i.order.window workspace
    ++ payoff_questions i.order.payoff
    ++ batch_questions s.grid false i.order.paths (length i.draws) lent

-- Rule 13.1: the form over the window
abbrev pub form_over : VixBatchInputs → Vix
form_over i =
    let s = simulation_of i.given in vix_of s.kernel s.params (value i.order.window)

-- Rule 15.5: a VIX batch observes the raw VIX squared, and is never mirrored
abbrev pub vix_batch : VixBatchInputs → Batch
vix_batch i =
    batch_on (simulation_of i.given) VixSquared (λ s. raw_squared (form_over i) s.factors) false
    i.order.paths i.draws

-- Rules 17.2 and 18.4: every field of the answer, as the claim speaks of it
abbrev pub read : VixEstimate → BatchAnswer
read a =
    record {
      number = a.number;
      place = a.place;
      doubles = a.payoff ∷ a.payoff_error ∷ a.index ∷ a.index_error ∷ [];
      counts = a.paths ∷ [];
      steps = a.steps;
    }

-- Rule 16.5: the questions up to 16
unfoldable pub through_workspace : VixBatchInputs → ℕ → List Question
unfolding model_questions window_questions
through_workspace i workspace =
    model_questions i.given
    ++ window_questions (length i.given.weights) i.order.window workspace

-- Rules 15.5, 16.3, 16.5 and 18.3: the answer, the table of observations and the claim, and the
-- workspace, which is free once 16 is passed
pub record VixBatchAnswered (i : VixBatchInputs) (work work_after lent after : List Float)
    (r : VixEstimate) : Type 0 where
  pub batch :
      BatchAnswered read
      (first_no (vix_batch_questions i (length work) (length lent))) (vix_batch i)
      (payoff_for i.order.payoff) lent after r
  pub workspace :
      KeptUnlessPassed (first_no (through_workspace i (length work))) work work_after
