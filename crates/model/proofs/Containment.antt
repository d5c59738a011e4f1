-- The segment that contains a step. In a time grid as admission lays it out, each step from 1 to N
-- is contained in exactly one. Assumes nothing.
use mathlib.Core.Path.{◌≡◌, refl, ap, ◌∙◌}
use mathlib.Core.Bool.{Bool, true, false, cond, and-false, and-eq-true_iff}
use mathlib.Core.Option
use mathlib.Core.Option.{Option, none, some}
use mathlib.Core.Logic.{⊎_elim}
use Prim.Native.Nat.{ℕ, zero, suc, ◌+◌, ◌≤◌, ◌<◌}
use native.Mathlib.Numerals.{add-one}
use native.Mathlib.Omega.{arith}
use borrow.Author.Tests.{lt-ltb, le-leb, lt-leb, ltb-true, leb-true}
use lib.Dec.{ltb, leb}
use lib.ListN.{get_or}
use lib.Seq.{get_or-take}
use lib.Ieee.{nan}
use Rattle.model.specs.declared.TimeGrid.{TimeGrid}
use Rattle.model.specs.TimeGrid.{last_step, contains, segment_of, dt_at, sqrt_dt_at}
use Rattle.model.specs.Inner.InUse.{grid_in_use}
use Rattle.model.specs.Inner.Laid.{Laid}
use Rattle.model.proofs.First.{split, at_first}

-- ---- g segments have ended by step k, and the next, if there is one, has not
pub record Reached (sc : TimeGrid) (g k : ℕ) : Type 0 where
  pub most : g ≤ sc.count
  pub behind : last_step sc g ≤ k
  pub ahead : g < sc.count → k < last_step sc (suc g)

module _ (sc : TimeGrid) (laid : Laid sc) where
  last_before : (i g : ℕ) → i ≤ g → g ≤ sc.count → last_step sc i ≤ last_step sc g
  last_before i g h b =
      ⊎_elim (λ (z : i < g). omega (arith, laid.rises i g z b))
      (λ (z : g ≤ i). let e : i ≡ g = omega arith in rw e (omega arith)) (split i g)

  -- no segment ends after the last step
  pub last_most : (i : ℕ) → i ≤ sc.count → last_step sc i ≤ sc.total
  last_most i h = omega (arith, laid.ends, last_before i sc.count h (omega arith))

  -- ---- the segment that contains step k
  pub contains_yes : (g k : ℕ) → last_step sc g < k → k ≤ last_step sc (suc g) → contains sc (suc g) k ≡ true
  contains_yes g k lo hi = rw (lt-ltb _ _ lo, le-leb _ _ hi)

  contains_no : (i k : ℕ) → last_step sc i < k → contains sc i k ≡ false
  contains_no zero k h = refl
  contains_no (suc i) k h =
      let after : leb k (last_step sc (suc i)) ≡ false = lt-leb k _ h in rw after (and-false (ltb (last_step sc i) k))

  pub segment_of_lem : (g k : ℕ) → g < sc.count → last_step sc g < k → k ≤ last_step sc (suc g) → segment_of sc k ≡ suc g
  unfolding segment_of
  segment_of_lem g k b lo hi =
      ap (λ (o : Option ℕ). Option.get_or o 0)
      (at_first _ sc.count (suc g) (suc g)
      (record {
        from = omega arith;
        upto = b;
        here = ap (λ (passes : Bool). cond passes (some (suc g)) none) (contains_yes g k lo hi);
        earlier = λ i a z.
            ap (λ (passes : Bool). cond passes (some i) none)
            (contains_no i k (omega (arith, last_before i g (omega arith) (omega arith))));
      }))

  -- ---- a walk among the segments
  pub reached_none : Reached sc 0 0
  reached_none = record { most = omega arith; behind = omega arith; ahead = λ h. laid.rises 0 1 (omega arith) h }

  -- before the last step a segment is still to end
  pub reached_open : (g k : ℕ) → Reached sc g k → k < sc.total → g < sc.count
  reached_open g k h b =
      ⊎_elim (λ (z : g < sc.count). z)
      (λ (z : sc.count ≤ g).
      let e : g ≡ sc.count = omega (arith, h.most) in
      let t : last_step sc g ≡ sc.total = ap (last_step sc) e ∙ laid.ends in
      absurd (omega (arith, h.behind)))
      (split g sc.count)

  -- a step that ends the segment, and one that does not
  pub reached_next : (g k : ℕ) → Reached sc g k → g < sc.count → k + 1 ≡ last_step sc (suc g) → Reached sc (g + 1) (k + 1)
  reached_next g k h b e =
      rw (add-one g)
      (record { most = b; behind = omega arith; ahead = λ z. rw e (laid.rises (suc g) (suc (suc g)) (omega arith) z) })

  pub reached_on : (g k : ℕ) → Reached sc g k → g < sc.count → (k + 1 ≡ last_step sc (suc g) → ⊥) → Reached sc g (k + 1)
  reached_on g k h b inside =
      record { most = h.most; behind = omega (arith, h.behind); ahead = λ z. omega (arith, h.ahead b) }

  -- after the last step none is
  pub reached_shut : (g k : ℕ) → Reached sc g k → sc.total ≤ k → g ≡ sc.count
  reached_shut g k h b =
      ⊎_elim (λ (z : g < sc.count). absurd (omega (arith, h.ahead z, last_most (suc g) z)))
      (λ (z : sc.count ≤ g). omega (arith, h.most)) (split g sc.count)

  -- the segments behind and ahead
  pub reached_behind : (g k : ℕ) → Reached sc g k → (i : ℕ) → i < g → last_step sc (suc i) ≤ k
  reached_behind g k h i b = omega (arith, h.behind, last_before (suc i) g b h.most)

  pub reached_ahead : (g k : ℕ) → Reached sc g k → (i : ℕ) → g ≤ i → i < sc.count → k < last_step sc (suc i)
  reached_ahead g k h i b z = omega (arith, h.ahead (omega arith), last_before (suc g) (suc i) (omega arith) z)

-- ---- the first places of the arrays of a schedule, which are in use
module _ (sc : TimeGrid) where
  last_in_use : (i : ℕ) → i ≤ sc.count → last_step (grid_in_use sc) i ≡ last_step sc i
  last_in_use zero h = refl
  last_in_use (suc i) h = get_or-take sc.count sc.last i 0 h

  pub laid_in_use : Laid sc → Laid (grid_in_use sc)
  laid_in_use laid =
      record {
        some = laid.some;
        few = laid.few;
        short = laid.short;
        rises = λ i j h l. rw (last_in_use i (omega arith), last_in_use j l) (laid.rises i j h l);
        ends = last_in_use sc.count (omega arith) ∙ laid.ends;
      }

  -- the rates of the next step are those of the segment that is still to end
  module _ (laid : Laid sc) (g k : ℕ) (h : Reached sc g k) (b : g < sc.count) where
    segment_is : segment_of (grid_in_use sc) (suc k) ≡ suc g
    segment_is =
        segment_of_lem (grid_in_use sc) (laid_in_use laid) g (suc k) b
        (rw (last_in_use g (omega arith)) (omega (arith, h.behind))) (rw (last_in_use (suc g) b) (h.ahead b))

    pub dt_reached : dt_at (grid_in_use sc) (suc k) ≡ get_or sc.dt g nan
    unfolding dt_at
    dt_reached = rw segment_is (get_or-take sc.count sc.dt g nan b)

    pub sqrt_dt_reached : sqrt_dt_at (grid_in_use sc) (suc k) ≡ get_or sc.sqrt_dt g nan
    unfolding sqrt_dt_at
    sqrt_dt_reached = rw segment_is (get_or-take sc.count sc.sqrt_dt g nan b)

  pub reached_in_use : (g k : ℕ) → Reached (grid_in_use sc) g k → Reached sc g k
  reached_in_use g k h =
      record {
        most = h.most;
        behind = rw (last_in_use g h.most) at h.behind;
        ahead = λ (z : g < sc.count). rw (last_in_use (suc g) z) at (h.ahead z);
      }

-- ---- each step is contained in one segment, and in one only
module _ (sc : TimeGrid) (laid : Laid sc) where
  -- a segment among the first n contains step k, if k is not past the last of them
  find : (n k : ℕ) → n ≤ sc.count → 1 ≤ k → k ≤ last_step sc n → (g : ℕ) × (g < n) × (last_step sc g < k) × (k ≤ last_step sc (suc g))
  find zero k h lo hi = absurd (omega arith)
  find (suc n) k h lo hi =
      ⊎_elim (λ (z : last_step sc n < k). (n, omega arith, z, hi))
      (λ (z : k ≤ last_step sc n). let r = find n k (omega arith) lo z in (r.0, omega (arith, r.1), r.2, r.3))
      (split (last_step sc n) k)

  pub segment_at_lem : (k : ℕ) → 1 ≤ k → k ≤ sc.total → (g : ℕ) × (g < sc.count) × (last_step sc g < k) × (k ≤ last_step sc (suc g))
  segment_at_lem k lo hi = find sc.count k (omega arith) lo (omega (arith, laid.ends))

  contained : (j k : ℕ) → contains sc (suc j) k ≡ true → (last_step sc j < k) × (k ≤ last_step sc (suc j))
  contained j k e =
      let r = (and-eq-true_iff (ltb (last_step sc j) k) (leb k (last_step sc (suc j)))).0 e in
      (ltb-true (last_step sc j) k r.0, leb-true k (last_step sc (suc j)) r.1)

  pub segment_only : (g j k : ℕ) → g < sc.count → j < sc.count → last_step sc g < k → k ≤ last_step sc (suc g) → contains sc (suc j) k ≡ true → j ≡ g
  segment_only g j k b c lo hi e =
      let r = contained j k e in
      ⊎_elim (λ (z : j < g). absurd (omega (arith, r.1, last_before sc laid (suc j) g z (omega arith))))
      (λ (z : g ≤ j).
      ⊎_elim (λ (y : g < j). absurd (omega (arith, r.0, last_before sc laid (suc g) j y (omega arith))))
      (λ (y : j ≤ g). omega arith) (split g j))
      (split j g)
