-- The questions of a vanilla batch, one admission after the other, and what they leave. Assumes
-- nothing.
use mathlib.Core.Path.{◌≡◌, refl, sym, ◌∙◌, ap}
use mathlib.Core.List.{List, ◌++◌}
use native.Mathlib.Omega.{arith}
use lib.ListN.{length}
use lib.Ieee.{Float}
use Rattle.std.specs.Prelude.{Ok, Err}
use Rattle.refusal.specs.declared.Refusal.{Refusal}
use Rattle.refusal.specs.Questions.{Question, Outcome, passed, first_no}
use Rattle.refusal.proofs.Laws.{then, stops}
use Rattle.model.specs.declared.Simulation.{Simulation}
use Rattle.admission.specs.Questions.{model_questions}
use Rattle.admission.specs.Inner.Admission.{ModelPrepared}
use Rattle.walks.specs.declared.Batch.{Batch as Handed}
use Rattle.walks.specs.declared.Observation.TheVariants as observation
use Rattle.walks.specs.declared.Observed.TheVariants.{Spot}
use Rattle.walks.specs.Batch.{batch_on}
use Rattle.walks.specs.Inner.Handed.{batch_of}
use Rattle.estimates.specs.declared.Payoff.{Payoff}
use Rattle.batch.specs.Report.{Priced, refused_after}
use Rattle.batch.specs.Questions.{path_questions, batch_questions}
use Rattle.batch.specs.Claim.{answer_of}
use Rattle.batch.specs.Inner.Handed.{Ready, PricedOnceAsked}
use Rattle.batch.proofs.Asked.{refused_answered, read_answered}
use Rattle.vanilla.specs.Call.{VanillaInputs, terms_questions, vanilla_questions}
use Rattle.vanilla.specs.Call.{vanilla_batch, vanilla_payoff, read, VanillaAnswered}
use Rattle.vanilla.specs.Inner.Answer.{written}

module _ (i : VanillaInputs) (lent : List Float) where
  -- what is asked before 19
  abbrev earlier : List Question
  earlier = model_questions i.given ++ terms_questions i.order.terms

  -- 19, 28, 20 and 21, over a schedule
  abbrev sizes : Simulation → Outcome
  sizes s =
      first_no
      (batch_questions s.grid i.order.mirrored i.order.paths (length i.draws)
      (length lent))

  -- what the claim speaks of is read off the answer
  reads : (x : Priced) → read (written x) ≡ answer_of (vanilla_batch i) x
  reads (Ok report) = refl
  reads (Err r) = refl

  refused :
      (r : Refusal) → first_no (vanilla_questions i (length lent)) ≡ Err r
      → VanillaAnswered i lent lent (written (refused_after 0 r))
  refused r e = refused_answered read (vanilla_batch i) (vanilla_payoff i) lent r e refl

  pub model_refused :
      (r : Refusal) → ModelPrepared i.given (Err r)
      → VanillaAnswered i lent lent (written (refused_after 0 r))
  unfolding vanilla_questions
  model_refused r m =
      refused r (stops earlier _ r (stops (model_questions i.given) _ r (sym m.outcome)))

  module _ (s : Simulation) (m : ModelPrepared i.given (Ok s)) where
    pub terms_refused :
        (r : Refusal) → first_no (terms_questions i.order.terms) ≡ Err r
        → VanillaAnswered i lent lent (written (refused_after 0 r))
    unfolding vanilla_questions
    terms_refused r e =
        refused r (stops earlier _ r (then (model_questions i.given) _ (sym m.outcome) ∙ e))

    abbrev handed : Handed
    handed =
        record {
          simulation = s;
          observation = observation.Spot;
          mirrored = i.order.mirrored;
          paths = i.order.paths;
        }

    pub is_ready : Ready handed
    is_ready =
        record { admitted = m.ready.admitted; laid = m.ready.laid; form = omega arith }

    batch_is : batch_of handed i.draws ≡ vanilla_batch i
    batch_is =
        ap
        (λ (x : Simulation).
        batch_on x Spot (λ s. s.spot) i.order.mirrored i.order.paths i.draws)
        m.ready.in_use

    module _ (e : first_no (terms_questions i.order.terms) ≡ passed) where
      -- all questions come to what 19, 28, 20 and 21 come to
      sizes_is : sizes s ≡ first_no (vanilla_questions i (length lent))
      unfolding vanilla_questions path_questions
      sizes_is =
          ap sizes m.ready.in_use
          ∙ sym (then earlier _ (then (model_questions i.given) _ (sym m.outcome) ∙ e))

      pub priced_through :
          {payoff : Payoff} → payoff ≡ vanilla_payoff i → {after : List Float} {x : Priced}
          → PricedOnceAsked handed payoff i.draws lent after x
          → VanillaAnswered i lent after (written x)
      priced_through pays {after} {x} made =
          read_answered read sizes_is batch_is pays made (reads x)
