-- What is made of the paths of a batch: its report, or a refusal. Definitions only.
use Rattle.std.specs.Prelude.{Bool, List, [], ◌∷◌, ℕ, ◌*◌, Float}
use Rattle.std.specs.Prelude.{Some, None, Result, Ok, Err}
use Rattle.std.specs.Prelude.{Option as Optional}
use Rattle.std.proofs.Math.Option.{Option, none, some}
use Rattle.std.specs.Float.Ieee.{lt}
use Rattle.numeric.specs.Double.{plus_zero, finite}
use Rattle.refusal.specs.declared.Refusal.{Refusal}
use Rattle.refusal.specs.declared.Refusal.TheVariants.{Squared, Estimate}
use Rattle.refusal.specs.declared.BadSquared.TheVariants.{NotFinite, NotPositive}
use Rattle.refusal.specs.declared.Reported.{Reported}
use Rattle.refusal.specs.Questions.{Question, ask, first_no, each, once_asked}
use Rattle.model.specs.Walk.{state_after}
use Rattle.walks.specs.declared.Observed.{Observed}
use Rattle.walks.specs.declared.Observed.TheVariants.{Spot, VixSquared}
use Rattle.walks.specs.Batch.{Batch, walk_of, non_positive_paths, observation}
use Rattle.estimates.specs.declared.Estimates.{Estimates}
use Rattle.estimates.specs.declared.Payoff.{Payoff}
use Rattle.estimates.specs.Payoff.{payoff_of, underlying_of}
use Rattle.estimates.specs.Moments.{estimates_of, not_finite}
use Rattle.paths.specs.Run.{RunStop, run_stop, steps_at, refusal_at}
use Rattle.paths.specs.declared.Refused.{Refused}
use Rattle.batch.specs.declared.Report.{Report}

-- Rule 14.11: of a last VIX squared, which is that of path p
abbrev pub questions_of_squared : Float → ℕ → List Question
questions_of_squared squared p =
    ask (Squared NotFinite (Some p)) (finite squared)
    ∷ ask (Squared NotPositive (Some p)) (lt plus_zero squared)
    ∷ []

-- Rule 14.11: of path p, `squared p` being its last VIX squared
abbrev pub squared_questions : (ℕ → Float) → ℕ → List Question
squared_questions squared p = questions_of_squared (squared p) p

-- Rule 14.11: of the last observations of the paths, `last p` being that of path p; of a spot none
abbrev pub last_questions : Observed → (ℕ → Float) → ℕ → List Question
last_questions Spot last paths = []
last_questions VixSquared last paths = each (squared_questions last) paths

-- Rule 14.12: 25, of the estimate that is not finite
abbrev pub unless_not_finite : {A : Type 0} → Optional Reported → (Refusal → A) → A → A
unless_not_finite None refused answered = answered
unless_not_finite (Some which) refused answered = refused (Estimate which)

-- Rule 10.4: what each path pays on, `last p` being the last observation of path p
abbrev pub underlying_at : Observed → (ℕ → Float) → ℕ → Float
underlying_at observed last p = underlying_of observed (last p)

-- Rule 10.5: what each path pays, `lowest p` being its lowest spot
abbrev pub paid_at : Observed → Payoff → (ℕ → Float) → (ℕ → Float) → ℕ → Float
paid_at observed payoff last lowest p =
    payoff_of payoff (underlying_at observed last p) (lowest p)

-- Rule 10.7: `priced` of the estimates, or `refused` of the first No of 23 to 25; `last p` is the
-- last observation of path p, and `lowest p` its lowest spot
unfoldable pub reported :
    {A : Type 0} → Observed → Bool → Payoff → (ℕ → Float) → (ℕ → Float) → ℕ → (Refusal → A)
    → (Estimates → A) → A
unfolding first_no each payoff_of estimates_of not_finite
reported observed mirrored payoff last lowest paths refused priced =
    let paid = paid_at observed payoff last lowest in
    let made = estimates_of mirrored paid (underlying_at observed last) paths in
    once_asked (first_no (last_questions observed last paths)) refused
    (unless_not_finite (not_finite made) refused (priced made))

-- Rules 10.7 and 15.1: a report, or a No with the steps taken by then
abbrev pub Priced : Type 0
Priced = Result Report Refused

abbrev pub refused_after : ℕ → Refusal → Priced
refused_after steps refusal = Err (record { refusal = refusal; steps = steps })

-- Rule 10.7: what is reported with the estimates of a batch that goes through
unfoldable pub report_with : Batch → Estimates → Report
unfolding non_positive_paths
report_with b estimates =
    record {
      estimates = estimates;
      paths = b.paths;
      non_positive = non_positive_paths b b.paths;
      steps = b.paths * b.simulation.grid.total;
    }

-- Rule 9.8: 22 where the batch stops; else what is reported of the last observations and the lowest
-- spots
abbrev pub priced_at : Batch → Payoff → Option RunStop → Priced
priced_at b payoff (some s) = refused_after (steps_at b s) (refusal_at b s)
priced_at b payoff none =
    let grid = b.simulation.grid in
    let steps = b.paths * grid.total in
    reported b.observed b.mirrored payoff (λ p. observation b p grid.count)
    (λ p. (state_after (walk_of b p) grid.total).lowest) b.paths (refused_after steps)
    (λ estimates. Ok (report_with b estimates))

-- Rule 9.8: what a batch whose questions before 22 are passed answers
unfoldable pub priced_run : Batch → Payoff → Priced
unfolding run_stop observation state_after reported report_with
priced_run b payoff = priced_at b payoff (run_stop b b.paths)
