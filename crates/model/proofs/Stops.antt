-- Where a walk stops: it goes on over a finite state and stops at one that is not. Assumes nothing.
use mathlib.Core.Path.{◌≡◌, refl, sym, ap, ◌∙◌}
use mathlib.Core.Option.{Option, none, some}
use Rattle.std.proofs.Common.{Ok, Err}
use Prim.Native.Nat.{ℕ, suc, ◌<◌, ◌≤◌}
use native.Mathlib.Omega.{arith}
use Rattle.refusal.specs.declared.Quantity.{Quantity}
use Rattle.model.specs.Step.{Finiteness, finite_state, finiteness}
use Rattle.model.specs.Walk.{Walk, Stop, state_after, stop_here, stop_within}
use Rattle.model.proofs.First.{none_some, first_more, first_stays, first_none, none_at, none_all, first_at}

abbrev pub stop_at : ℕ → Quantity → Stop
stop_at k q = record { step = k; quantity = q }

stop_apart : (x : Stop) → some x ≡ none → ⊥
stop_apart x e = none_some x (sym e)

here_finite : (k : ℕ) (f : Finiteness) → stop_here k f ≡ none → f ≡ finite_state
here_finite k (Ok tt) e = refl
here_finite k (Err q) e = absurd (stop_apart (stop_at k q) e)

here_stops : (k : ℕ) (f : Finiteness) (x : Stop) → stop_here k f ≡ some x → (x.step ≡ k) × (f ≡ Err x.quantity)
here_stops k (Ok tt) x e = absurd (none_some x e)
here_stops k (Err q) x e = let same : stop_at k q ≡ x = cc in (ap (λ (y : Stop). y.step) (sym same), ap (λ (y : Stop). Err y.quantity) same)

-- a walk's first step, among n, that is not finite
pub record StopsAt (w : Walk) (n : ℕ) (x : Stop) : Type 0 where
  pub from : 1 ≤ x.step
  pub upto : x.step ≤ n
  pub fails : finiteness (state_after w x.step) ≡ Err x.quantity
  pub earlier : (j : ℕ) → 1 ≤ j → j < x.step → finiteness (state_after w j) ≡ finite_state

module _ (w : Walk) where
  -- the stop of a step, if it is one
  abbrev stop_of : ℕ → Option Stop
  stop_of k = stop_here k (finiteness (state_after w k))

  pub stop_goes : (k : ℕ) → stop_within w k ≡ none → finiteness (state_after w (suc k)) ≡ finite_state → stop_within w (suc k) ≡ none
  unfolding stop_within
  stop_goes k h e = first_more stop_of k h ∙ rw (e, stop_here)

  pub stop_ends : (k : ℕ) (q : Quantity) → stop_within w k ≡ none → finiteness (state_after w (suc k)) ≡ Err q → (n : ℕ) → k < n → stop_within w n ≡ some (stop_at (suc k) q)
  unfolding stop_within
  stop_ends k q h e n l = first_stays stop_of (suc k) n (stop_at (suc k) q) l (first_more stop_of k h ∙ rw (e, stop_here))

  pub stop_none : (m n : ℕ) → m ≤ n → stop_within w n ≡ none → stop_within w m ≡ none
  unfolding stop_within
  stop_none m n h e = first_none stop_of m n h e

  -- a walk stops nowhere exactly where each step is finite
  pub stop_finite : (n : ℕ) → stop_within w n ≡ none → (k : ℕ) → 1 ≤ k → k ≤ n → finiteness (state_after w k) ≡ finite_state
  unfolding stop_within
  stop_finite n e k h l = here_finite k _ (none_at stop_of n k e h l)

  pub finite_stop : (n : ℕ) → ((k : ℕ) → 1 ≤ k → k ≤ n → finiteness (state_after w k) ≡ finite_state) → stop_within w n ≡ none
  unfolding stop_within
  finite_stop n h = none_all stop_of n (λ k l m. rw (h k l m, stop_here))

  -- and where it stops is its first step that is not
  pub stop_first : (n : ℕ) (x : Stop) → stop_within w n ≡ some x → StopsAt w n x
  unfolding stop_within
  stop_first n x e =
      let r = first_at stop_of n x e in
      let here = here_stops r.0 _ x r.1.here in
      record {
        from = rw here.0 r.1.from;
        upto = rw here.0 r.1.upto;
        fails = rw here.0 here.1;
        earlier = λ j h l. here_finite j _ (r.1.earlier j h (omega (arith, here.0)));
      }
