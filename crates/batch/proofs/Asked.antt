-- What a batch call answers and leaves, from the outcome of its questions. Assumes nothing.
use mathlib.Core.Path.{◌≡◌, sym, ◌∙◌, ap, subst}
use mathlib.Core.List.{List}
use lib.Ieee.{Float}
use Rattle.std.specs.Prelude.{Err}
use Rattle.refusal.specs.declared.Refusal.{Refusal}
use Rattle.refusal.specs.Questions.{Outcome, passed}
use Rattle.refusal.proofs.Laws.{never_both}
use Rattle.walks.specs.Batch.{Batch}
use Rattle.estimates.specs.declared.Payoff.{Payoff}
use Rattle.batch.specs.Report.{Priced, refused_after}
use Rattle.batch.specs.Claim.{BatchAnswer, BatchClaim, answer_of}
use Rattle.batch.specs.Answered.{priced_once_asked, BatchAnswered}
use Rattle.batch.specs.Inner.Handed.{BatchPriced}

-- a call that is refused before 22 leaves the table as lent
pub refused_answered :
    {A : Type 0} (read : A → BatchAnswer) {asked : Outcome} (b : Batch) (payoff : Payoff)
    (lent : List Float) (first : Refusal) → asked ≡ Err first → {r : A}
    → read r ≡ answer_of b (refused_after 0 first)
    → BatchAnswered read asked b payoff lent lent r
unfolding priced_once_asked
refused_answered read b payoff lent first e made =
    record {
      answer = made ∙ rw e;
      table = rw e;
      claim = λ all. absurd (never_both _ first e all);
    }

-- a batch whose questions are passed
pub priced_answered :
    {asked : Outcome} {b : Batch} {payoff : Payoff} {lent after : List Float} {r : Priced}
    → asked ≡ passed → BatchPriced b payoff lent after r
    → BatchAnswered (answer_of b) asked b payoff lent after r
unfolding priced_once_asked
priced_answered {asked} {b} e made =
    record {
      answer = ap (answer_of b) made.answer ∙ rw e;
      table = made.table ∙ rw e;
      claim = λ all. made.claim;
    }

-- the same answer, read otherwise, of the same batch after the same questions
module _
    {A : Type 0} (read : A → BatchAnswer) {asked asked' : Outcome} (same_asked : asked ≡ asked')
    {b b' : Batch} (same-batch : b ≡ b') {payoff payoff' : Payoff}
    (same-payoff : payoff ≡ payoff') {lent after : List Float}
  where
    pub read_answered :
        {x : Priced} → BatchAnswered (answer_of b) asked b payoff lent after x → {r : A}
        → read r ≡ answer_of b' x → BatchAnswered read asked' b' payoff' lent after r
    read_answered {x} made {r} e =
        let same : read r ≡ answer_of b x =
        e ∙ ap (λ (y : Batch). answer_of y x) (sym same-batch) in
        record {
          answer = same ∙ made.answer ∙ rw (same_asked, same-batch, same-payoff);
          table = made.table ∙ rw (same_asked, same-batch);
          claim = λ all.
              subst (λ (y : BatchAnswer). BatchClaim b' payoff' lent after y) (sym e)
              (rw (same-batch, same-payoff) at (made.claim (same_asked ∙ all)));
        }
