-- The vanilla batch, ordinary or mirrored, of calls, puts or down-and-out puts: its questions, its
-- answer and its claim, for all inputs. Definitions only.
use Rattle.std.specs.Prelude.{List, [], ◌∷◌, ◌++◌, ℕ, length, Float}
use Rattle.refusal.specs.Questions.{Question, first_no}
use Rattle.model.specs.Parameters.{start_of}
use Rattle.model.specs.TimeGrid.{grid_of}
use Rattle.model.specs.Simulation.{Given, simulation_of}
use Rattle.admission.specs.Questions.{model_questions}
use Rattle.walks.specs.declared.Observed.TheVariants.{Spot}
use Rattle.walks.specs.Batch.{Batch, batch_on}
use Rattle.estimates.specs.declared.Payoff.{Payoff}
use Rattle.batch.specs.Questions.{strike_questions, barrier_questions, vanilla_at, down_and_out_at}
use Rattle.batch.specs.Questions.{path_questions, batch_questions}
use Rattle.batch.specs.Claim.{BatchAnswer}
use Rattle.batch.specs.Answered.{BatchAnswered}
use Rattle.vanilla.specs.declared.Terms.{Terms}
use Rattle.vanilla.specs.declared.Terms.TheVariants.{Vanilla, DownAndOut}
use Rattle.vanilla.specs.declared.Order.{Order}
use Rattle.vanilla.specs.declared.Estimate.{Estimate}

-- Rule 15.3: a model, an order and draws
pub record VanillaInputs : Type 0 where
  pub given : Given
  pub order : Order
  pub draws : List Float

abbrev pub vanilla_inputs : Given → Order → List Float → VanillaInputs
vanilla_inputs given order draws = record { given = given; order = order; draws = draws }

-- Rule 14.9: those of the strike, and of a down-and-out put those of its barrier after them
abbrev pub terms_questions : Terms → List Question
terms_questions (Vanilla style strike) = strike_questions strike
terms_questions (DownAndOut strike barrier) = strike_questions strike ++ barrier_questions barrier

-- Rule 15.3: those of the model, of the terms and of the batch, with a table of so many doubles
-- lent
unfoldable pub vanilla_questions : VanillaInputs → ℕ → List Question
unfolding model_questions path_questions start_of grid_of
vanilla_questions i lent =
    model_questions i.given
    ++ terms_questions i.order.terms
    ++ batch_questions (simulation_of i.given).grid i.order.mirrored i.order.paths
    (length i.draws) lent

-- Rule 15.3: a vanilla observes the spot
abbrev pub vanilla_batch : VanillaInputs → Batch
vanilla_batch i =
    batch_on (simulation_of i.given) Spot (λ s. s.spot) i.order.mirrored i.order.paths
    i.draws

-- Rule 10.5: the payoff of the terms
abbrev pub terms_payoff : Terms → Payoff
terms_payoff (Vanilla style strike) = vanilla_at style strike
terms_payoff (DownAndOut strike barrier) = down_and_out_at strike barrier

-- Rule 10.5: the payoff of an order's terms
abbrev pub vanilla_payoff : VanillaInputs → Payoff
vanilla_payoff i = terms_payoff i.order.terms

-- Rules 17.2 and 18.4: every field of the answer, as the claim speaks of it
abbrev pub read : Estimate → BatchAnswer
read a =
    record {
      number = a.number;
      place = a.place;
      doubles = a.price ∷ a.price_error ∷ a.spot_mean ∷ a.spot_error ∷ [];
      counts = a.paths ∷ a.non_positive ∷ [];
      steps = a.steps;
    }

-- Rules 15.3, 16.3 and 18.3: the answer, the table of observations and the claim
abbrev pub VanillaAnswered : VanillaInputs → List Float → List Float → Estimate → Type 0
VanillaAnswered i lent after r =
    BatchAnswered read (first_no (vanilla_questions i (length lent))) (vanilla_batch i)
    (vanilla_payoff i) lent after r
