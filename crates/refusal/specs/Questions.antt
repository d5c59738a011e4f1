-- A call asks its questions in a fixed order, and the first No ends it with that question's
-- refusal. Definitions only.
use Rattle.std.specs.Prelude.{◌≡◌, Bool, true, false, List, [], ◌∷◌, ◌++◌, ℕ, zero, suc}
use Rattle.std.specs.Prelude.{Result, Ok, Err}
use Rattle.refusal.specs.declared.Refusal.{Refusal}

-- Rule 14.1: what questions come to: each got a Yes, or the refusal of the first No
abbrev pub Outcome : Type 0
Outcome = Result Unit Refusal

abbrev pub passed : Outcome
passed = Ok tt

-- Rule 14.1: a condition on the input, whether it holds, and what a No answers
pub record Question : Type 0 where
  pub passes : Bool
  pub refusal : Refusal

-- Rule 14.1: a question, by its refusal and its condition
abbrev pub ask : Refusal → Bool → Question
ask refusal passes = record { passes = passes; refusal = refusal }

-- Rule 14.1: a No ends the call with its refusal; after a Yes the later questions count
abbrev pub unless : Bool → Refusal → Outcome → Outcome
unless true refusal later = later
unless false refusal later = Err refusal

-- Rule 14.1: the first No of a list, in its order
unfoldable pub first_no : List Question → Outcome
first_no [] = passed
first_no (q ∷ qs) = unless q.passes q.refusal (first_no qs)

-- Rule 14.1: the questions about 1, then those about 2, and so on up to n
unfoldable pub each : (ℕ → List Question) → ℕ → List Question
each about zero = []
each about (suc n) = each about n ++ about (suc n)

-- ---- what a call makes of the outcome of its questions

-- Rule 15.1: the refusal of the first No, or what the call comes to where there is none
abbrev pub once_asked : {A : Type 0} → Outcome → (Refusal → A) → A → A
once_asked (Ok _) refused answered = answered
once_asked (Err refusal) refused answered = refused refusal

-- Rule 16.1: a table is as lent at a No, and written where there is none
abbrev pub written_once_asked : {A : Type 0} → Outcome → A → A → A
written_once_asked outcome lent written = once_asked outcome (λ refusal. lent) written

-- Rule 16.5: a workspace is as lent at a No of the questions up to 16; where these pass, which is
-- the outcome here, it is free
abbrev pub KeptUnlessPassed : {A : Type 0} → Outcome → A → A → Type 0
KeptUnlessPassed (Ok _) lent after = Unit
KeptUnlessPassed (Err refusal) lent after = after ≡ lent
