-- The lowest spot that a state carries is the smallest of its walk so far. Assumes nothing.
use mathlib.Core.Path.{◌≡◌, refl, ap, ◌∙◌, subst}
use mathlib.Core.Bool.{true}
use mathlib.Core.Logic.{⊎_elim}
use Prim.Native.Nat.{ℕ, zero, suc, ◌≤◌, ◌<◌}
use native.Mathlib.Omega.{arith}
use lib.Ieee.{le}
use Rattle.numeric.specs.Double.{smaller}
use Rattle.numeric.proofs.Order.{le_through}
use Rattle.numeric.proofs.Minimum.{le_refl, smaller_is}
use Rattle.model.specs.declared.State.{State}
use Rattle.model.specs.Step.{read, step, finite_state, finiteness}
use Rattle.model.specs.Walk.{Walk, state_after, LowestSpot}
use Rattle.model.specs.Inner.Admitted.{Admitted}
use Rattle.model.proofs.First.{split}
use Rattle.model.proofs.FiniteStates.{finite_parts, start_finite, walk_sound}

module _ (w : Walk) (ok : Admitted w.simulation) where
  -- at the start the only spot, and after each step the smaller of it and the new one
  pub start_lowest : (state_after w 0).lowest ≡ (state_after w 0).spot
  unfolding state_after read
  start_lowest = ap (λ (s : State). s.lowest) ok.start_read

  pub step_lowest : (k : ℕ) → (state_after w (suc k)).lowest ≡ smaller (state_after w k).lowest (state_after w (suc k)).spot
  unfolding state_after step read
  step_lowest k = refl

  at_start : LowestSpot w 0
  unfolding state_after
  at_start =
      let least : le (state_after w 0).lowest (state_after w 0).spot ≡ true =
      rw start_lowest (le_refl (state_after w 0).spot (finite_parts _ (start_finite w.simulation ok)).0) in
      record {
        at = 0;
        is_point = omega arith;
        is_spot = start_lowest;
        at_most = λ j l. let e : 0 ≡ j = omega arith in subst (λ (j : ℕ). le (state_after w 0).lowest (state_after w j).spot ≡ true) e least;
      }

  pub walk_lowest : (k : ℕ) → ((j : ℕ) → 1 ≤ j → j ≤ k → finiteness (state_after w j) ≡ finite_state) → LowestSpot w k
  walk_lowest zero h = at_start
  walk_lowest (suc k) h =
      let earlier : (j : ℕ) → 1 ≤ j → j ≤ k → finiteness (state_after w j) ≡ finite_state = λ j l n. h j l (omega arith) in
      let before = walk_lowest k earlier in
      let old = (state_after w k).lowest in
      let new = (state_after w (suc k)).spot in
      let lowest = (state_after w (suc k)).lowest in
      let finite-new = (walk_sound w ok (suc k) h).spot in
      let past : le lowest old ≡ true → (j : ℕ) → j ≤ k → le lowest (state_after w j).spot ≡ true =
      λ l j n. le_through lowest old _ l (before.at_most j n) in
      let every : le lowest old ≡ true → le lowest new ≡ true → (j : ℕ) → j ≤ suc k → le lowest (state_after w j).spot ≡ true =
      λ l n j m.
      ⊎_elim (λ (z : j < suc k). past l j (omega arith))
      (λ (z : suc k ≤ j). let e : suc k ≡ j = omega arith in subst (λ (j : ℕ). le lowest (state_after w j).spot ≡ true) e n) (split j (suc k)) in
      ⊎_elim
      (λ is.
      let same : lowest ≡ old = step_lowest k ∙ is.0 in
      record {
        at = before.at;
        is_point = omega (arith, before.is_point);
        is_spot = same ∙ before.is_spot;
        at_most = every (rw same (le_refl old (walk_sound w ok k earlier).lowest)) (rw same is.1);
      })
      (λ is.
      let same : lowest ≡ new = step_lowest k ∙ is.0 in
      record {
        at = suc k;
        is_point = omega arith;
        is_spot = same;
        at_most = every (rw same is.1) (rw same (le_refl new finite-new));
      })
      (smaller_is old new (walk_sound w ok k earlier).lowest finite-new)
