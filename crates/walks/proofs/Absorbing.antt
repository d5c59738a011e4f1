-- A walk that is finite after n steps was finite before: what is not finite stays so.
-- Assumes nothing.
use mathlib.Core.Path.{◌≡◌, refl, sym, ap, ◌∙◌}
use mathlib.Core.Bool.{true, false}
use mathlib.Core.Logic.{⊎_elim}
use mathlib.Core.Option.{none}
use Prim.Native.Nat.{ℕ, zero, suc, ◌≤◌, ◌<◌}
use native.Mathlib.Omega.{arith}
use lib.Ieee.{Float, nan, inf, fin, binary64}
use Rattle.numeric.specs.Double.{times, minus, finite}
use Rattle.numeric.specs.Root.{root}
use Rattle.numeric.proofs.Finite.{never, plus_finite, times_finite, minus_finite}
use Rattle.model.specs.declared.Kernel.{Kernel}
use Rattle.model.specs.declared.Params.{Params}
use Rattle.model.specs.declared.State.{State}
use Rattle.model.specs.Step.{variance_at, read, step, finite_state, finiteness}
use Rattle.model.specs.TimeGrid.{dt_at, sqrt_dt_at}
use Rattle.model.specs.Walk.{Walk, state_after, stop_within}
use Rattle.model.proofs.First.{split}
use Rattle.model.proofs.FiniteStates.{finite_parts, parts_finite}
use Rattle.model.proofs.Stops.{finite_stop}

root_finite : (x : Float) → finite (root binary64 x) ≡ true → finite x ≡ true
unfolding root
root_finite nan h = never refl h
root_finite (inf true) h = never refl h
root_finite (inf false) h = never refl h
root_finite (fin s m e) h = refl

variance_finite : (p : Params) (z : Float) → finite (variance_at p z) ≡ true → finite z ≡ true
unfolding variance_at
variance_finite p z h =
    let s = minus z p.b in
    (minus_finite z p.b (times_finite (times p.a s) s (plus_finite (times (times p.a s) s) p.c h).0).1).0

-- a finite spot after a step: spot and variance were finite
step_finite : (k : Kernel) (p : Params) (s : State) (g dt sqrt_dt : Float) → finite (step k p s g dt sqrt_dt).spot ≡ true → (finite s.spot ≡ true) × (finite s.variance ≡ true)
unfolding step read
step_finite k p s g dt sqrt_dt h =
    let d = times (root binary64 s.variance) (times sqrt_dt g) in
    let parts = plus_finite s.spot (times s.spot d) h in
    (parts.0, root_finite s.variance (times_finite (root binary64 s.variance) (times sqrt_dt g) (times_finite s.spot d parts.1).1).0)

read_variance : (k : Kernel) (p : Params) (s : State) (g dt sqrt_dt : Float) → (step k p s g dt sqrt_dt).variance ≡ variance_at p (step k p s g dt sqrt_dt).z
unfolding step read
read_variance k p s g dt sqrt_dt = refl

module _ (w : Walk) where
  before : (k : ℕ) → finite (state_after w (suc (suc k))).spot ≡ true → finiteness (state_after w (suc k)) ≡ finite_state
  unfolding state_after
  before k h =
      let s = state_after w (suc k) in
      let parts = step_finite w.simulation.kernel w.simulation.params s (w.draw (suc (suc k))) (dt_at w.simulation.grid (suc (suc k))) (sqrt_dt_at w.simulation.grid (suc (suc k))) h in
      let is_read : s.variance ≡ variance_at w.simulation.params s.z = read_variance w.simulation.kernel w.simulation.params (state_after w k) (w.draw (suc k)) (dt_at w.simulation.grid (suc k)) (sqrt_dt_at w.simulation.grid (suc k)) in
      parts_finite s parts.0 (variance_finite w.simulation.params s.z (ap finite (sym is_read) ∙ parts.1)) parts.1

  pub all_finite_lem : (n : ℕ) → finiteness (state_after w n) ≡ finite_state → (k : ℕ) → 1 ≤ k → k ≤ n → finiteness (state_after w k) ≡ finite_state
  all_finite_lem zero h k l m = absurd (omega arith)
  all_finite_lem (suc zero) h k l m = let e : k ≡ 1 = omega arith in rw e h
  all_finite_lem (suc (suc n)) h k l m =
      ⊎_elim (λ (z : k < suc (suc n)). all_finite_lem (suc n) (before n (finite_parts (state_after w (suc (suc n))) h).0) k l (omega arith))
      (λ (z : suc (suc n) ≤ k). let e : k ≡ suc (suc n) = omega arith in rw e h) (split k (suc (suc n)))

  pub never_stopped : (n : ℕ) → finiteness (state_after w n) ≡ finite_state → stop_within w n ≡ none
  never_stopped n h = finite_stop w n (all_finite_lem n h)
