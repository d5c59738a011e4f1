-- The first that there is among f 1, f 2, ..: what more of them change, and what fewer.
-- Assumes nothing.
use mathlib.Core.Path.{◌≡◌, refl, sym, ◌∙◌, subst}
use mathlib.Core.Option.{Option, none, some}
use mathlib.Core.Logic.{◌⊎◌, inl, inr}
use Prim.Native.Nat.{ℕ, zero, suc, ◌+◌, ◌-◌, ◌<◌, ◌≤◌}
use native.Mathlib.Nat.{add-zero, add-suc, add-sub_of_le}
use native.Mathlib.Decide.{dec_lt}
use native.Mathlib.Omega.{arith}
use Rattle.model.specs.First.{first_some}

pub split : (a b : ℕ) → (a < b) ⊎ (b ≤ a)
split a b = go (dec_lt a b)
  where
    go : Dec (a < b) → (a < b) ⊎ (b ≤ a)
    go (yes h) = inl h
    go (no h) = inr (omega arith)

pub none_some : {A : Type 0} (x : A) → none ≡ some x → ⊥
none_some x e = let z : ◌≡◌ {A = ℕ} 0 1 = cc in omega arith

-- the first of f 1, .. f n is at k, and is x
pub record FirstAt {A : Type 0} (f : ℕ → Option A) (n k : ℕ) (x : A) : Type 0 where
  pub from : 1 ≤ k
  pub upto : k ≤ n
  pub here : f k ≡ some x
  pub earlier : (j : ℕ) → 1 ≤ j → j < k → f j ≡ none

module _ {A : Type 0} (f : ℕ → Option A) where
  -- one more
  pub first_more : (n : ℕ) → first_some f n ≡ none → first_some f (suc n) ≡ f (suc n)
  unfolding first_some
  first_more n e = rw e

  first_add : (m d : ℕ) (x : A) → first_some f m ≡ some x → first_some f (m + d) ≡ some x
  unfolding first_some
  first_add m zero x e = rw add-zero e
  first_add m (suc d) x e = rw add-suc (rw (first_add m d x e))

  -- what was found stays
  pub first_stays : (m n : ℕ) (x : A) → m ≤ n → first_some f m ≡ some x → first_some f n ≡ some x
  first_stays m n x h e = subst (λ (k : ℕ). first_some f k ≡ some x) (add-sub_of_le h) (first_add m (n - m) x e)

  -- where nothing is found, nothing was found before
  pub first_none : (m n : ℕ) → m ≤ n → first_some f n ≡ none → first_some f m ≡ none
  first_none m n h e = go (first_some f m) refl
    where
      go : (o : Option A) → first_some f m ≡ o → first_some f m ≡ none
      go none p = p
      go (some x) p = absurd (none_some x (sym e ∙ first_stays m n x h p))

  -- nothing is found exactly where there is nothing
  pub none_at : (n k : ℕ) → first_some f n ≡ none → 1 ≤ k → k ≤ n → f k ≡ none
  none_at n (suc k) e h l = sym (first_more k (first_none k n (omega arith) e)) ∙ first_none (suc k) n l e
  none_at n zero e h l = absurd (omega arith)

  pub none_all : (n : ℕ) → ((k : ℕ) → 1 ≤ k → k ≤ n → f k ≡ none) → first_some f n ≡ none
  unfolding first_some
  none_all zero h = refl
  none_all (suc n) h =
      first_more n (none_all n (λ k l m. h k l (omega arith))) ∙ h (suc n) (omega arith) (omega arith)

  -- what is found is the first
  pub first_at : (n : ℕ) (x : A) → first_some f n ≡ some x → (k : ℕ) × FirstAt f n k x
  unfolding first_some
  first_at zero x e = absurd (none_some x e)
  first_at (suc n) x e = go (λ p. first_at n x p) (first_some f n) refl
    where
      go : (first_some f n ≡ some x → (k : ℕ) × FirstAt f n k x) → (o : Option A) → first_some f n ≡ o → (k : ℕ) × FirstAt f (suc n) k x
      go ih none p = (
        suc n,
        record {
          from = omega arith;
          upto = omega arith;
          here = sym (first_more n p) ∙ e;
          earlier = λ j h l. none_at n j p h (omega arith);
        },
      )
      go ih (some y) p =
          let r = ih (p ∙ sym (first_stays n (suc n) y (omega arith) p) ∙ e) in (
            r.0,
            record { from = r.1.from; upto = omega (arith, r.1.upto); here = r.1.here; earlier = r.1.earlier },
          )

  -- the first is what is found
  pub at_first : (n k : ℕ) (x : A) → FirstAt f n k x → first_some f n ≡ some x
  at_first n (suc k) x h =
      first_stays (suc k) n x h.upto
      (first_more k (none_all k (λ j l m. h.earlier j l (omega arith))) ∙ h.here)
  at_first n zero x h = absurd (omega (arith, h.from))
