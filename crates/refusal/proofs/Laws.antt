-- Laws of questions: one list after another, in a loop over `each`, and what follows where all are
-- passed. Assumes nothing.
use mathlib.Core.Path.{◌≡◌, refl, sym, ◌∙◌, ap, subst}
use mathlib.Core.Bool.{Bool, true, false}
use mathlib.Core.List.{List, [], ◌∷◌, ◌++◌}
use mathlib.Core.Logic.{⊎_elim}
use Prim.Native.Nat.{ℕ, zero, suc, ◌+◌, ◌<◌}
use native.Mathlib.Nat.{eq-or-lt_of_le, le_of_suc-le-suc}
use native.Mathlib.Numerals.{add-one}
use native.Mathlib.Omega.{arith}
use Rattle.refusal.specs.declared.Refusal.{Refusal}
use Rattle.std.specs.Prelude.{Result, Ok, Err, IsErrAnd}
use Rattle.std.proofs.lemmas.Result.{err_from_is_err_and}
use Rattle.refusal.specs.Questions.{Question, Outcome, passed, unless, first_no, each}
use Rattle.refusal.specs.Questions.{KeptUnlessPassed}

-- the outcome of earlier questions and, where they passed, of later ones
abbrev pub or_later : Outcome → Outcome → Outcome
or_later (Ok _) later = later
or_later (Err refusal) later = Err refusal

-- an outcome is not both a refusal and passed
pub never_both : (o : Outcome) (r : Refusal) → o ≡ Err r → o ≡ passed → ⊥
never_both o r e f = let z : ◌≡◌ {A = ℕ} 0 1 = cc in omega arith

unless_later : (passes : Bool) (refusal : Refusal) (o later : Outcome) → unless passes refusal (or_later o later) ≡ or_later (unless passes refusal o) later
unless_later true refusal o later = refl
unless_later false refusal o later = refl

-- ---- what the exit of a `?` returns is the refusal that came to it
pub exits : {T : Type 0} (r : Result T Refusal) (x : Refusal) → IsErrAnd r (λ y. y ≡ x) → r ≡ Err x
exits r x e = let p = err_from_is_err_and r e in p.1 ∙ ap Err p.2

-- ---- a question that the code asks by `ensure`, whose answer is an exit of the function or not
module _ (q : Question) where
  -- a No is the first of a list that begins with it
  pub stopped : (qs : List Question) (r : Refusal) → Err r ≡ unless q.passes q.refusal passed → first_no (q ∷ qs) ≡ Err r
  unfolding first_no
  stopped qs r = go q.passes
    where
      go : (b : Bool) → Err r ≡ unless b q.refusal passed → unless b q.refusal (first_no qs) ≡ Err r
      go true e = absurd (never_both _ r (sym e) refl)
      go false e = sym e

  pub yes : Ok tt ≡ unless q.passes q.refusal passed → q.passes ≡ true
  yes = go q.passes
    where
      go : (b : Bool) → Ok tt ≡ unless b q.refusal passed → b ≡ true
      go true e = refl
      go false e = absurd (never_both _ q.refusal refl (sym e))

  -- after a Yes the rest of the list counts
  pub went_on : (qs : List Question) → Ok tt ≡ unless q.passes q.refusal passed → first_no (q ∷ qs) ≡ first_no qs
  unfolding first_no
  went_on qs e = ap (λ b. unless b q.refusal (first_no qs)) (yes e)

-- ---- one list after another: the first list's No, else the outcome of the second
module _ (xs ys : List Question) where
  pub append : first_no (xs ++ ys) ≡ or_later (first_no xs) (first_no ys)
  unfolding first_no
  append = go xs
    where
      go : (xs : List Question) → first_no (xs ++ ys) ≡ or_later (first_no xs) (first_no ys)
      go [] = refl
      go (q ∷ xs) = ap (unless q.passes q.refusal) (go xs) ∙ unless_later q.passes q.refusal (first_no xs) (first_no ys)

  pub then : first_no xs ≡ passed → first_no (xs ++ ys) ≡ first_no ys
  then e = append ∙ ap (λ o. or_later o (first_no ys)) e

  pub stops : (r : Refusal) → first_no xs ≡ Err r → first_no (xs ++ ys) ≡ Err r
  stops r e = append ∙ ap (λ o. or_later o (first_no ys)) e

  -- where both together are passed, so is each
  pub passed_first : first_no (xs ++ ys) ≡ passed → first_no xs ≡ passed
  passed_first e = go (first_no xs) refl
    where
      go : (o : Outcome) → first_no xs ≡ o → first_no xs ≡ passed
      go (Ok _) h = h
      go (Err r) h = let never = stops r h in cc

  pub passed_then : first_no (xs ++ ys) ≡ passed → first_no ys ≡ passed
  passed_then e = let first = passed_first e in let later = then first in cc

-- where a list is passed, so is its first question, and the rest
module _ (q : Question) (qs : List Question) where
  pub passed_head : first_no (q ∷ qs) ≡ passed → q.passes ≡ true
  unfolding first_no
  passed_head e = go q.passes refl
    where
      go : (b : Bool) → q.passes ≡ b → b ≡ true
      go true h = refl
      go false h = absurd (never_both (first_no (q ∷ qs)) q.refusal (rw h) e)

  pub passed_tail : first_no (q ∷ qs) ≡ passed → first_no qs ≡ passed
  unfolding first_no
  passed_tail e = rw (passed_head e) at e

-- ---- a loop over `each`
module _ (about : ℕ → List Question) where
  pub each_none : first_no (each about 0) ≡ passed
  unfolding first_no each
  each_none = refl

  -- passed up to i, and at i + 1: passed up to i + 1
  pub each_more : (i : ℕ) → first_no (each about i) ≡ passed → first_no (about (suc i)) ≡ passed → first_no (each about (i + 1)) ≡ passed
  unfolding each
  each_more i before here = rw add-one (then (each about i) (about (suc i)) before ∙ here)

  -- passed up to i, and refused at i + 1: that refusal, however many there are
  pub each_stops : (i n : ℕ) (r : Refusal) → i < n → first_no (each about i) ≡ passed → first_no (about (suc i)) ≡ Err r → first_no (each about n) ≡ Err r
  unfolding each
  each_stops i zero r l before here = absurd (omega arith)
  each_stops i (suc n) r l before here =
      ⊎_elim
      (λ (e : i ≡ n). subst (λ (k : ℕ). first_no (each about (suc k)) ≡ Err r) e (then (each about i) (about (suc i)) before ∙ here))
      (λ (h : i < n). stops (each about n) (about (suc n)) r (each_stops i n r h before here))
      (eq-or-lt_of_le (le_of_suc-le-suc l))

  -- where all are passed, so are those about each
  pub each_passed : (i n : ℕ) → i < n → first_no (each about n) ≡ passed → first_no (about (suc i)) ≡ passed
  unfolding each
  each_passed i zero l all = absurd (omega arith)
  each_passed i (suc n) l all =
      ⊎_elim
      (λ (e : i ≡ n). subst (λ (k : ℕ). first_no (about (suc k)) ≡ passed) (sym e) (passed_then (each about n) (about (suc n)) all))
      (λ (h : i < n). each_passed i n h (passed_first (each about n) (about (suc n)) all))
      (eq-or-lt_of_le (le_of_suc-le-suc l))

-- ---- a lent workspace: it may always be kept, and where all up to 16 is passed it is free
module _ {A : Type 0} where
  pub kept_same : (o : Outcome) (lent : A) → KeptUnlessPassed o lent lent
  kept_same (Ok _) lent = tt
  kept_same (Err r) lent = refl

  pub kept_free : (o : Outcome) (lent after : A) → o ≡ passed → KeptUnlessPassed o lent after
  kept_free (Ok _) lent after e = tt
  kept_free (Err r) lent after e = absurd (never_both (Err r) r refl e)

-- ---- what holds of the refusal of each question holds of the first No
module _ (P : Refusal → Type 0) where
  abbrev pub Each : List Question → Type 0
  Each [] = Unit
  Each (q ∷ qs) = P q.refusal × Each qs

  pub each_joined : (xs ys : List Question) → Each xs → Each ys → Each (xs ++ ys)
  each_joined [] ys h k = k
  each_joined (q ∷ xs) ys h k = (h.0, each_joined xs ys h.1 k)

  pub each_all : (about : ℕ → List Question) → ((i : ℕ) → Each (about i)) → (n : ℕ) → Each (each about n)
  unfolding each
  each_all about h zero = tt
  each_all about h (suc n) = each_joined (each about n) (about (suc n)) (each_all about h n) (h (suc n))

  pub first_has : (qs : List Question) → Each qs → (r : Refusal) → first_no qs ≡ Err r → P r
  unfolding first_no
  first_has [] h r e = absurd (never_both passed r e refl)
  first_has (q ∷ qs) h r e = go q.passes e (first_has qs h.1 r)
    where
      go : (b : Bool) → unless b q.refusal (first_no qs) ≡ Err r → (first_no qs ≡ Err r → P r) → P r
      go true f later = later f
      go false f later = let same : q.refusal ≡ r = cc in subst P same h.0
