-- What is made of the last observations of a batch. Assumes nothing.
use mathlib.Core.Path.{◌≡◌, refl, ap, ◌∙◌}
use mathlib.Core.Bool.{Bool}
use mathlib.Core.List.{List}
use Prim.Native.Nat.{ℕ, zero, suc}
use native.Mathlib.Omega.{arith}
use lib.Ieee.{Float}
use Rattle.std.specs.Prelude.{Ok, Err, Some, None}
use Rattle.std.specs.Prelude.{Option as Optional}
use Rattle.refusal.specs.declared.Refusal.{Refusal}
use Rattle.refusal.specs.Refusal.{number_of}
use Rattle.refusal.proofs.Laws.{Each, each_all, first_has}
use Rattle.refusal.specs.declared.Reported.{Reported}
use Rattle.refusal.specs.Questions.{Question, Outcome, first_no, each, once_asked}
use Rattle.walks.specs.declared.Observed.{Observed}
use Rattle.walks.specs.declared.Observed.TheVariants.{Spot, VixSquared}
use Rattle.estimates.specs.declared.Estimates.{Estimates}
use Rattle.estimates.specs.declared.Payoff.{Payoff}
use Rattle.estimates.specs.Payoff.{payoff_of, underlying_of}
use Rattle.estimates.specs.Moments.{estimates_of, not_finite}
use Rattle.estimates.proofs.Values.{SameUpTo, estimates_same}
use Rattle.batch.specs.Report.{squared_questions, last_questions, unless_not_finite}
use Rattle.batch.specs.Report.{underlying_at, paid_at, reported}

-- by the outcome of 23 and 24, and by which estimate is not finite
abbrev by : {A : Type 0} → Outcome → Optional Reported → (Refusal → A) → A → A
by asked which refused priced = once_asked asked refused (unless_not_finite which refused priced)

-- the estimates
abbrev made : Observed → Bool → Payoff → (ℕ → Float) → (ℕ → Float) → ℕ → Estimates
made o mirrored payoff last lowest n =
    estimates_of mirrored (paid_at o payoff last lowest) (underlying_at o last) n

-- ---- a reading of what is made is made of the readings
by_read :
    {A B : Type 0} (f : A → B) (asked : Outcome) (which : Optional Reported) (refused : Refusal → A) (priced : A)
    → f (by asked which refused priced) ≡ by asked which (λ r. f (refused r)) (f priced)
by_read f (Ok _) None refused priced = refl
by_read f (Ok _) (Some which) refused priced = refl
by_read f (Err first) which refused priced = refl

-- ---- what holds of a price and of each refusal but 22 holds of what is made
abbrev pub Other : Refusal → Type 0
Other r = number_of r ≡ 22 → ⊥

squared_other : (squared : ℕ → Float) (p : ℕ) → Each Other (squared_questions squared p)
squared_other squared p = ((λ e. omega (arith, e)), ((λ e. omega (arith, e)), tt))

last_other : (o : Observed) (last : ℕ → Float) (n : ℕ) → Each Other (last_questions o last n)
last_other Spot last n = tt
last_other VixSquared last n = each_all Other (squared_questions last) (squared_other last) n

by_other :
    {A : Type 0} (P : A → Type 0) (asked : Outcome) (which : Optional Reported) (refused : Refusal → A) (priced : A)
    → ((r : Refusal) → asked ≡ Err r → Other r) → ((r : Refusal) → Other r → P (refused r))
    → P priced → P (by asked which refused priced)
by_other P (Ok _) None refused priced other r p = p
by_other P (Ok _) (Some which) refused priced other r p = r _ (λ e. omega (arith, e))
by_other P (Err first) which refused priced other r p = r first (other first refl)

module _
    {A : Type 0} (o : Observed) (mirrored : Bool) (payoff : Payoff) (last lowest : ℕ → Float) (n : ℕ)
    (refused : Refusal → A) (priced : Estimates → A)
  where
    abbrev asked : Outcome
    asked = first_no (last_questions o last n)

    abbrev estimates : Estimates
    estimates = made o mirrored payoff last lowest n

    pub reported_read :
        {B : Type 0} (f : A → B)
        → f (reported o mirrored payoff last lowest n refused priced)
        ≡ reported o mirrored payoff last lowest n (λ r. f (refused r)) (λ e. f (priced e))
    unfolding reported
    reported_read f = by_read f asked (not_finite estimates) refused (priced estimates)

    pub reported_other :
        (P :
        A → Type 0) → ((r : Refusal) → Other r → P (refused r)) → ((e : Estimates)
        → P (priced e))
        → P (reported o mirrored payoff last lowest n refused priced)
    unfolding reported
    reported_other P r p =
        by_other P asked (not_finite estimates) refused (priced estimates)
        (first_has Other (last_questions o last n) (last_other o last n)) r (p estimates)

-- ---- the same observations of each path make the same
each_same :
    (f g : ℕ → List Question) (n : ℕ) → SameUpTo f g n → each f n ≡ each g n
unfolding each
each_same f g zero same = refl
each_same f g (suc n) same =
    rw (
      each_same f g n (λ p l h. same p l (omega arith)),
      same (suc n) (omega arith) (omega arith),
    )

pub questions_same :
    (o : Observed) (f g : ℕ → Float) (n : ℕ) → SameUpTo f g n
    → last_questions o f n ≡ last_questions o g n
questions_same Spot f g n same = refl
questions_same VixSquared f g n same =
    each_same (squared_questions f) (squared_questions g) n (λ p l h. rw (same p l h))

pub reported_same :
    {A : Type 0} (o : Observed) (mirrored : Bool) (payoff : Payoff) (f g lowest : ℕ → Float)
    (n : ℕ) → SameUpTo f g n → (refused : Refusal → A) (priced : Estimates → A)
    → reported o mirrored payoff f lowest n refused priced
    ≡ reported o mirrored payoff g lowest n refused priced
unfolding reported
reported_same o mirrored payoff f g lowest n same refused priced =
    let of-f : Estimates = made o mirrored payoff f lowest n in
    ap (λ (q : List Question). by (first_no q) (not_finite of-f) refused (priced of-f))
    (questions_same o f g n same)
    ∙ ap (λ (e : Estimates). by (first_no (last_questions o g n)) (not_finite e) refused (priced e))
    (estimates_same mirrored (paid_at o payoff f lowest) (paid_at o payoff g lowest) (underlying_at o f) (underlying_at o g) n
    (λ p l h. ap (λ (x : Float). payoff_of payoff (underlying_of o x) (lowest p)) (same p l h))
    (λ p l h. ap (underlying_of o) (same p l h)))
