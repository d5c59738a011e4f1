-- What a batch call answers and leaves, by the outcome of its questions before 22. Definitions
-- only.
use Rattle.std.specs.Prelude.{◌≡◌, List, Float}
use Rattle.refusal.specs.Questions.{Outcome, passed, once_asked, written_once_asked}
use Rattle.walks.specs.Batch.{Batch}
use Rattle.estimates.specs.declared.Payoff.{Payoff}
use Rattle.paths.specs.Run.{table_after}
use Rattle.batch.specs.Report.{Priced, refused_after, priced_run}
use Rattle.batch.specs.Claim.{BatchAnswer, answer_of, BatchClaim}

-- Rule 15.1: the refusal of the first No, with no step taken; where there is none, the price
unfoldable pub priced_once_asked : Outcome → Batch → Payoff → Priced
unfolding priced_run
priced_once_asked asked b payoff = once_asked asked (refused_after 0) (priced_run b payoff)

-- Rules 15.1, 16.3 and 18.3: `read` has every field of the answer r; a batch is admitted where its
-- questions are passed
pub record BatchAnswered {A : Type 0} (read : A → BatchAnswer) (asked : Outcome) (b : Batch)
    (payoff : Payoff) (lent after : List Float) (r : A) : Type 0 where
  pub answer : read r ≡ answer_of b (priced_once_asked asked b payoff)
  pub table : after ≡ written_once_asked asked lent (table_after b lent)
  pub claim : asked ≡ passed → BatchClaim b payoff lent after (read r)
