-- States stay finite and the variance at least c: a finite z has finite factors, adding what is not
-- negative to c gives no less than c, the smaller of two finite spots is finite, and a start of
-- bounded doubles is finite. Assumes nothing.
use mathlib.Core.Path.{◌≡◌, refl, sym, ap, ◌∙◌, subst}
use mathlib.Core.Bool.{Bool, true, false, and-eq-true_iff}
use mathlib.Core.List.{List}
use mathlib.Core.Logic.{⊎_elim}
use Rattle.std.proofs.Common.{Err}
use Prim.Native.Nat.{ℕ, zero, suc, ◌+◌, ◌*◌, ◌^◌, ◌≤◌, ◌<◌}
use native.Mathlib.Nat.{le_trans, le_of_eq, mul-one, one-mul}
use native.Mathlib.Omega.{arith}
use lib.IntN.{pos, negsuc}
use lib.ListN.{get_or}
use lib.Ieee.{Float, nan, inf, fin, le, up, down}
use Rattle.numeric.specs.Double.{minus, times, magnitude, finite}
use Rattle.refusal.specs.declared.Quantity.{Quantity}
use Rattle.refusal.specs.declared.Quantity.TheVariants.{Spot, Z, Variance}
use Rattle.model.specs.declared.State.{State}
use Rattle.model.specs.declared.Simulation.{Simulation}
use Rattle.model.specs.Kernel.{in_range}
use Rattle.model.specs.Step.{weighted_sum, variance_at, read, step, first_of_three, finite_state, finiteness}
use Rattle.model.specs.Walk.{Walk, state_after, Sound}
use Rattle.model.specs.Inner.Admitted.{Converted, Admitted}
use Rattle.model.proofs.First.{split}
use Rattle.numeric.proofs.Finite.{never, sign, plus_finite, times_finite}
use Rattle.numeric.proofs.Order.{le→ordered}
use Rattle.numeric.proofs.Minimum.{smaller_finite}
use Rattle.numeric.proofs.Monotone.{variance_ge}
use Rattle.numeric.proofs.Bounds.{Within, within_mono, minus_within, zero_within, dot_within, variance_within, range_within}

-- ---- a finite z has finite factors
pub sum_factors : (weights factors : List Float) (n : ℕ) → finite (weighted_sum weights factors n) ≡ true → (i : ℕ) → i < n → finite (get_or factors i nan) ≡ true
unfolding weighted_sum
sum_factors weights factors zero h i l = absurd (omega arith)
sum_factors weights factors (suc n) h i l =
    let parts = plus_finite (weighted_sum weights factors n) (times (get_or weights n nan) (get_or factors n nan)) h in
    ⊎_elim (λ (z : i < n). sum_factors weights factors n parts.0 i z)
    (λ (z : n ≤ i).
    let e : n ≡ i = omega arith in
    subst (λ (x : ℕ). finite (get_or factors x nan) ≡ true) e (times_finite (get_or weights n nan) (get_or factors n nan) parts.1).1)
    (split i n)

-- ---- spot, z and variance of a finite state
pub not_finite : (q : Quantity) → Err q ≡ finite_state → ⊥
not_finite q e = let z : ◌≡◌ {A = ℕ} 0 1 = cc in omega arith

three : (a b c : Bool) → first_of_three a b c ≡ finite_state → (a ≡ true) × (b ≡ true) × (c ≡ true)
three false b c e = absurd (not_finite Spot e)
three true false c e = absurd (not_finite Z e)
three true true false e = absurd (not_finite Variance e)
three true true true e = (refl, refl, refl)

pub finite_parts : (s : State) → finiteness s ≡ finite_state → (finite s.spot ≡ true) × (finite s.z ≡ true) × (finite s.variance ≡ true)
unfolding finiteness
finite_parts s e = three (finite s.spot) (finite s.z) (finite s.variance) e

pub parts_finite : (s : State) → finite s.spot ≡ true → finite s.z ≡ true → finite s.variance ≡ true → finiteness s ≡ finite_state
unfolding finiteness
parts_finite s a b c = rw (a, b, c)

-- ---- converted Decimals are bounded
small_within : (x : Float) → le (magnitude x) (fin false 1 (pos 96)) ≡ true → Within 96 x
unfolding le
small_within nan h = never refl h
small_within (inf s) h = never refl h
small_within (fin s m e) h =
    record {
      is_finite = refl;
      at_most =
          le_trans (le_of_eq (sym (mul-one (m * up e))))
          (le_trans (le→ordered (fin false m e) (fin false 1 (pos 96)) refl refl h)
          (le_of_eq (ap (λ (x : ℕ). x * down e) (one-mul (2 ^ 96)))));
    }

pub converted_within : {x : Float} → Converted x → Within 96 x
converted_within {x} h = small_within x h.small

-- and so are weights in range
weight_within : (x : Float) → in_range x ≡ true → Within 90 x
unfolding in_range
weight_within x h =
    let ends = (and-eq-true_iff (le (fin false 1 (negsuc 89)) x) (le x (fin false 1 (pos 90)))).0 h in
    range_within 89 90 x ends.0 ends.1

-- a number that is its own magnitude has no minus sign
no_sign : (x : Float) → finite x ≡ true → magnitude x ≡ x → sign x ≡ false
no_sign nan f h = refl
no_sign (inf s) f h = never refl f
no_sign (fin s m e) f h = ap sign (sym h)

-- ---- the states of an admitted simulation
module _ (m : Simulation) (ok : Admitted m) where
  sum_within : (n : ℕ) → n ≤ m.kernel.n → Within (186 + n) (weighted_sum m.kernel.weights m.start.factors n)
  unfolding weighted_sum
  sum_within zero h = zero_within 186 true
  sum_within (suc n) h =
      dot_within {i = 90} {j = 96} n (sum_within n (omega arith)) (weight_within _ (ok.weight n h))
      (converted_within (ok.params.factor n h)) (omega (arith, ok.few))

  pub start_finite : finiteness m.start ≡ finite_state
  unfolding read variance_at
  start_finite =
      let p = m.params in
      let sum : Within 196 (weighted_sum m.kernel.weights m.start.factors m.kernel.n) =
      within_mono (sum_within m.kernel.n (omega arith)) (omega (arith, ok.few)) in
      let shifted = minus_within sum (within_mono (converted_within ok.params.b) (omega arith)) (omega arith) in
      let variance =
      variance_within (converted_within ok.params.a) shifted (converted_within ok.params.c) (omega arith) in
      ap finiteness ok.start_read
      ∙ parts_finite _ (converted_within ok.params.spot).is_finite sum.is_finite variance.is_finite

  a_sign : sign m.params.a ≡ false
  a_sign = no_sign m.params.a (converted_within ok.params.a).is_finite ok.params.a_not_negative

  -- a state that is read off its factors
  read_sound : (spot lowest : Float) (factors : List Float) → finite lowest ≡ true
      → finiteness (read m.kernel m.params spot lowest factors) ≡ finite_state
      → Sound m (read m.kernel m.params spot lowest factors)
  unfolding read variance_at
  read_sound spot lowest factors l f =
      let k = m.kernel in
      let p = m.params in
      let parts = finite_parts (read k p spot lowest factors) f in
      let z = weighted_sum k.weights factors k.n in
      record {
        spot = parts.0;
        z = parts.1;
        variance = parts.2;
        factor = sum_factors k.weights factors k.n parts.1;
        lowest = l;
        at_least_c = variance_ge p.a (minus z p.b) p.c a_sign ok.params.c.double parts.2;
      }

-- every state of a walk up to which each step is finite, the start included
module _ (w : Walk) (ok : Admitted w.simulation) where
  pub walk_sound : (k : ℕ) → ((j : ℕ) → 1 ≤ j → j ≤ k → finiteness (state_after w j) ≡ finite_state)
      → Sound w.simulation (state_after w k)
  unfolding state_after step
  walk_sound zero h =
      subst (λ (s : State). Sound w.simulation s) (sym ok.start_read)
      (read_sound w.simulation ok _ _ _ (finite_parts _ (start_finite w.simulation ok)).0
      (ap finiteness (sym ok.start_read) ∙ start_finite w.simulation ok))
  walk_sound (suc k) h =
      let now = h (suc k) (omega arith) (omega arith) in
      read_sound w.simulation ok _ _ _
      (smaller_finite (state_after w k).lowest (state_after w (suc k)).spot
      (walk_sound k (λ j l n. h j l (omega arith))).lowest (finite_parts _ now).0)
      now
