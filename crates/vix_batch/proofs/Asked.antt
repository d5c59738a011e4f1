-- The questions of a VIX batch, one admission after the other, and what they leave. Assumes
-- nothing.
use mathlib.Core.Path.{◌≡◌, refl, sym, ◌∙◌, ap, subst}
use mathlib.Core.Bool.{false}
use mathlib.Core.List.{List, ◌++◌}
use native.Mathlib.Omega.{arith}
use lib.ListN.{length}
use lib.Ieee.{Float}
use Rattle.decimal.specs.Decimal.{value}
use Rattle.std.specs.Prelude.{Result, Ok, Err}
use Rattle.refusal.specs.declared.Refusal.{Refusal}
use Rattle.refusal.specs.Questions.{Question, Outcome, passed, first_no}
use Rattle.refusal.specs.Inner.Outcomes.{outcome_of}
use Rattle.refusal.specs.Questions.{KeptUnlessPassed}
use Rattle.refusal.proofs.Laws.{then, stops, kept_same}
use Rattle.model.specs.declared.Simulation.{Simulation}
use Rattle.model.specs.declared.State.{State}
use Rattle.model.specs.Simulation.{simulation_of}
use Rattle.model.specs.Inner.InUse.{kernel_in_use, simulation_in_use}
use Rattle.admission.specs.Questions.{model_questions}
use Rattle.admission.specs.Inner.Admission.{ModelPrepared}
use Rattle.vix.specs.declared.Vix.{Vix}
use Rattle.vix.specs.Form.{raw_squared}
use Rattle.vix.specs.Build.{vix_of}
use Rattle.vix.specs.Questions.{window_questions, form_questions}
use Rattle.vix.specs.Inner.Form.{FormPrepared}
use Rattle.walks.specs.declared.Batch.{Batch as Handed}
use Rattle.walks.specs.declared.Observation.TheVariants as observation
use Rattle.walks.specs.declared.Observed.TheVariants.{VixSquared}
use Rattle.walks.specs.Batch.{Batch, batch_on}
use Rattle.walks.specs.Inner.Handed.{batch_of}
use Rattle.estimates.specs.declared.Payoff.{Payoff}
use Rattle.batch.specs.Report.{Priced, refused_after}
use Rattle.batch.specs.Questions.{path_questions, batch_questions}
use Rattle.batch.specs.Claim.{answer_of}
use Rattle.batch.specs.Inner.Handed.{Ready, PricedOnceAsked}
use Rattle.batch.proofs.Asked.{refused_answered, read_answered}
use Rattle.vix_batch.specs.Call.{VixBatchInputs, payoff_for, payoff_questions}
use Rattle.vix_batch.specs.Call.{vix_batch_questions, vix_batch, read}
use Rattle.vix_batch.specs.Call.{through_workspace, VixBatchAnswered}
use Rattle.vix_batch.specs.Inner.Answer.{written}

module _ (i : VixBatchInputs) (work lent : List Float) where
  -- what is asked of the form, and before 19
  abbrev of_form : Simulation → List Question
  of_form s = form_questions s.kernel s.params i.order.window (length work)

  abbrev earlier : List Question
  earlier =
      model_questions i.given ++ of_form (simulation_of i.given)
      ++ payoff_questions i.order.payoff

  -- 19 to 21, over a schedule
  abbrev sizes : Simulation → Outcome
  sizes s =
      first_no
      (batch_questions s.grid false i.order.paths (length i.draws) (length lent))

  -- what the claim speaks of is read off the answer
  reads : (x : Priced) → read (written x) ≡ answer_of (vix_batch i) x
  reads (Ok report) = refl
  reads (Err r) = refl

  -- the workspace is as lent unless 16 is passed
  abbrev Kept : List Float → Type 0
  Kept after = KeptUnlessPassed (first_no (through_workspace i (length work))) work after

  refused :
      (r : Refusal) → first_no (vix_batch_questions i (length work) (length lent)) ≡ Err r
      → {work_after : List Float} → Kept work_after
      → VixBatchAnswered i work work_after lent lent (written (refused_after 0 r))
  refused r e kept =
      record {
        batch = refused_answered read (vix_batch i) (payoff_for i.order.payoff) lent r e refl;
        workspace = kept;
      }

  pub model_refused :
      (r : Refusal) → ModelPrepared i.given (Err r)
      → VixBatchAnswered i work work lent lent (written (refused_after 0 r))
  unfolding vix_batch_questions
  model_refused r m =
      refused r
      (stops earlier _ r
      (stops (model_questions i.given ++ of_form (simulation_of i.given)) _ r
      (stops (model_questions i.given) _ r (sym m.outcome))))
      (kept_same (first_no (through_workspace i (length work))) work)

  module _ (s : Simulation) (m : ModelPrepared i.given (Ok s)) where
    module _
        {work_after : List Float} (r : Result Vix Refusal)
        (built :
        FormPrepared (kernel_in_use s.kernel) s.params i.order.window work work_after r)
      where
        kept : Kept work_after
        unfolding through_workspace
        kept =
            subst (λ (o : Outcome). KeptUnlessPassed o work work_after)
            (sym
            (then (model_questions i.given) _ (sym m.outcome)
            ∙ ap
            (λ (x : Simulation).
            first_no (window_questions x.kernel.n i.order.window (length work)))
            (sym m.ready.in_use)))
            built.workspace

        through : first_no (model_questions i.given ++ of_form (simulation_of i.given)) ≡ outcome_of r
        through =
            then (model_questions i.given) _ (sym m.outcome)
            ∙ ap (λ (x : Simulation). first_no (of_form x)) (sym m.ready.in_use)
            ∙ sym built.outcome

    pub form_refused :
        (r : Refusal) → {work_after : List Float}
        → FormPrepared (kernel_in_use s.kernel) s.params i.order.window work work_after (Err r)
        → VixBatchAnswered i work work_after lent lent (written (refused_after 0 r))
    unfolding vix_batch_questions
    form_refused r built =
        refused r
        (stops earlier _ r
        (stops (model_questions i.given ++ of_form (simulation_of i.given)) _ r
        (through (Err r) built)))
        (kept (Err r) built)

    module _
        (v : Vix) {work_after : List Float}
        (built : FormPrepared (kernel_in_use s.kernel) s.params i.order.window work work_after (Ok v))
      where
        pub payoff_refused :
            (r : Refusal) → first_no (payoff_questions i.order.payoff) ≡ Err r
            → VixBatchAnswered i work work_after lent lent (written (refused_after 0 r))
        unfolding vix_batch_questions
        payoff_refused r e =
            refused r
            (stops earlier _ r
            (then (model_questions i.given ++ of_form (simulation_of i.given)) _
            (through (Ok v) built)
            ∙ e))
            (kept (Ok v) built)

        abbrev handed : Handed
        handed =
            record {
              simulation = s;
              observation = observation.VixSquared v;
              mirrored = false;
              paths = i.order.paths;
            }

        factors_is : v.n ≡ s.kernel.n
        unfolding vix_of
        factors_is = ap (λ (x : Vix). x.n) built.ready

        pub is_ready : Ready handed
        is_ready =
            record {
              admitted = m.ready.admitted;
              laid = m.ready.laid;
              form = omega (arith, factors_is);
            }

        -- the batch, by its simulation and its form
        abbrev over : Simulation → Vix → Batch
        over s v =
            batch_on s VixSquared (λ (x : State). raw_squared v x.factors) false i.order.paths
            i.draws

        batch_is : batch_of handed i.draws ≡ vix_batch i
        batch_is =
            ap (over (simulation_in_use s)) built.ready
            ∙ ap (λ (x : Simulation). over x (vix_of x.kernel x.params (value i.order.window)))
            m.ready.in_use

        module _ (e : first_no (payoff_questions i.order.payoff) ≡ passed) where
          -- all questions come to what 19 to 21 come to
          sizes_is : sizes s ≡ first_no (vix_batch_questions i (length work) (length lent))
          unfolding vix_batch_questions path_questions
          sizes_is =
              ap sizes m.ready.in_use
              ∙ sym
              (then earlier _
              (then (model_questions i.given ++ of_form (simulation_of i.given)) _
              (through (Ok v) built)
              ∙ e))

          pub priced_through :
              {payoff : Payoff} → payoff ≡ payoff_for i.order.payoff
              → {after : List Float} {x : Priced}
              → PricedOnceAsked handed payoff i.draws lent after x
              → VixBatchAnswered i work work_after lent after (written x)
          priced_through pays {after} {x} made =
              record {
                batch = read_answered read sizes_is batch_is pays made (reads x);
                workspace = kept (Ok v) built;
              }
