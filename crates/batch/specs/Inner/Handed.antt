-- What the functions of a batch promise each other. Definitions only.
use Rattle.std.specs.Prelude.{◌≡◌, List, ℕ, ◌≤◌, length, Float}
use Rattle.std.specs.Prelude.{Ok}
use Rattle.refusal.specs.Questions.{first_no, once_asked}
use Rattle.model.specs.Inner.InUse.{simulation_in_use}
use Rattle.model.specs.Inner.Laid.{Laid}
use Rattle.model.specs.Inner.Admitted.{Admitted}
use Rattle.walks.specs.declared.Batch.{Batch as Handed}
use Rattle.walks.specs.Batch.{Batch}
use Rattle.walks.specs.Inner.Handed.{observed_of, factors_read, batch_of}
use Rattle.estimates.specs.declared.Payoff.{Payoff}
use Rattle.estimates.specs.Inner.Tally.{estimates_from}
use Rattle.estimates.specs.Moments.{not_finite}
use Rattle.paths.specs.declared.Walked.{Walked}
use Rattle.paths.specs.Run.{table_after}
use Rattle.tally.specs.Inner.Rows.{last_observation}
use Rattle.batch.specs.Questions.{batch_questions}
use Rattle.batch.specs.Report.{Priced, last_questions, unless_not_finite, refused_after}
use Rattle.batch.specs.Report.{priced_run}
use Rattle.batch.specs.Claim.{BatchClaim, answer_of}
use Rattle.batch.specs.Answered.{BatchAnswered}

-- ---- the price

unfoldable pub reported_of : Walked → ℕ → Priced
unfolding estimates_from not_finite
reported_of w paths =
    let made = estimates_from w.tally in
    unless_not_finite (not_finite made) (refused_after w.steps)
    (Ok
    (record {
      estimates = made;
      paths = paths;
      non_positive = w.non_positive;
      steps = w.steps;
    }))

unfoldable pub priced_from : Walked → Handed → List Float → Priced
unfolding reported_of first_no
priced_from w b table =
    once_asked
    (first_no
    (last_questions (observed_of b.observation)
    (last_observation table b.simulation.grid.count)
    b.paths))
    (refused_after w.steps) (reported_of w b.paths)

pub record BatchPriced (b : Batch) (payoff : Payoff) (lent after : List Float) (r : Priced)
    : Type 0 where
  pub answer : r ≡ priced_run b payoff
  pub table : after ≡ table_after b lent
  pub claim : BatchClaim b payoff lent after (answer_of b r)

-- ---- with its questions

-- what the questions before 19 leave: an admitted simulation, a schedule laid end to end, and a
-- form in no more factors than there are
pub record Ready (b : Handed) : Type 0 where
  pub admitted : Admitted (simulation_in_use b.simulation)
  pub laid : Laid b.simulation.grid
  pub form : factors_read b.observation ≤ b.simulation.kernel.n

-- 19, 28, 20 and 21, and the price where they are passed
abbrev pub PricedOnceAsked :
    Handed → Payoff → List Float → List Float → List Float → Priced → Type 0
PricedOnceAsked b payoff draws lent after r =
    BatchAnswered (answer_of (batch_of b draws))
    (first_no
    (batch_questions b.simulation.grid b.mirrored b.paths (length draws)
    (length lent)))
    (batch_of b draws) payoff lent after r
