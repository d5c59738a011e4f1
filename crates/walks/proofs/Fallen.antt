-- A path is non-positive exactly where its lowest spot is at or below zero: the start is above it.
-- Assumes nothing.
use mathlib.Core.Path.{◌≡◌, sym, ap, ◌∙◌}
use mathlib.Core.Bool.{Bool, ◌||◌}
use Prim.Native.Nat.{ℕ, zero, suc, ◌≤◌}
use native.Mathlib.Omega.{arith}
use lib.Ieee.{Float, le}
use Rattle.numeric.specs.Double.{plus_zero}
use Rattle.numeric.proofs.Minimum.{smaller_below}
use Rattle.model.specs.Step.{finite_state, finiteness}
use Rattle.model.specs.Walk.{Walk, state_after}
use Rattle.model.specs.Inner.Admitted.{Admitted}
use Rattle.model.proofs.FiniteStates.{walk_sound}
use Rattle.model.proofs.Lowest.{start_lowest, step_lowest}
use Rattle.walks.specs.Batch.{non_positive_by}

module _ (w : Walk) (ok : Admitted w.simulation) where
  pub fallen_lowest : (k : ℕ) → ((j : ℕ) → 1 ≤ j → j ≤ k → finiteness (state_after w j) ≡ finite_state)
      → non_positive_by w k ≡ le (state_after w k).lowest plus_zero
  unfolding non_positive_by state_after
  fallen_lowest zero h = sym (ap (λ (x : Float). le x plus_zero) (start_lowest w ok) ∙ ok.params.spot_above)
  fallen_lowest (suc k) h =
      let earlier : (j : ℕ) → 1 ≤ j → j ≤ k → finiteness (state_after w j) ≡ finite_state = λ j l n. h j l (omega arith) in
      let old = (state_after w k).lowest in
      let new = (state_after w (suc k)).spot in
      ap (λ (b : Bool). b || le new plus_zero) (fallen_lowest k earlier)
      ∙ sym (ap (λ (x : Float). le x plus_zero) (step_lowest w ok k) ∙ smaller_below old new (walk_sound w ok k earlier).lowest (walk_sound w ok (suc k) h).spot plus_zero)
