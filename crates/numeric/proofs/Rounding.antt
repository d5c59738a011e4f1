-- The rounding of `root_units` at v = m * 2 ^ 52 * 4 ^ k, for an m of 53 or 54 digits: the result is
-- the number nearest to the root of m * 2 ^ 52, k digits further up. Assumes nothing.
use Rattle.std.proofs.Common.{◌≡◌, ℕ, suc, ◌+◌, ◌-◌, ◌*◌, ◌/◌, ◌^◌, ◌<◌, ◌≤◌, false, sym, refl, ap, ◌∙◌, subst, le_trans, le_of_eq, lt_of_lt_of_le, le_of_suc-le-suc, lt_of_le_of_lt, mul-le-mul_right, mul_assoc, add-mul, mul-le-mul, le_antisymm, lt_of_mul-lt-mul_right, mul-lt-mul_of_pos_right, mul-pos, lt_of_not-le, le-div_iff_mul-le, mul-add, not-le_of_lt, le_of_mul-le-mul_right, arith, pow_pos, pow_mono, pow-add}
use Prim.Native.Nat.{compare, Ordering}
use native.Mathlib.Nat.{eq_of_mul-eq-mul_right}
use lib.Ieee.{Float, binary64, size, nearest, units}
use lib.Ieee.Digits.{size-lt, size-le}
use Rattle.numeric.specs.Root.{isqrt, root_units}
use Rattle.numeric.specs.Inner.Step.{Nearest, Significand}
use Rattle.numeric.proofs.Numbers.{square_next, odd_square, lt_of_squares, times_squared}
use Rattle.numeric.proofs.Compare.{Cmp, cmp}
use Rattle.numeric.proofs.Whole.{Whole, isqrt_is, cut_below, cut_above}

cmp_scaled : (o : Ordering) (a b p : ℕ) → 0 < p → Cmp o (a * p) (b * p) → Cmp o a b
cmp_scaled Ordering.lt a b p P h = lt_of_mul-lt-mul_right p h
cmp_scaled Ordering.eq a b p P h = eq_of_mul-eq-mul_right p P a b h
cmp_scaled Ordering.gt a b p P h = lt_of_mul-lt-mul_right p h

-- ---- only one number is nearest to the root of n
no_more : (n s t : ℕ) → s * s < n + s → n ≤ t * t + t → s ≤ t
no_more n s t a b = le_of_suc-le-suc (lt_of_not-le (λ (h : suc t ≤ s). clash h))
  where
    clash : suc t ≤ s → ⊥
    clash h =
        let l : (t + 1) * t ≤ s * (s - 1) = mul-le-mul {n₁ = t + 1} {m₁ = t} {n₂ = s} {m₂ = s - 1} (omega arith) (omega arith) in
        let e : s - 1 + 1 ≡ s = omega arith in
        let p : s * s ≡ s * (s - 1) + s * 1 = ap (λ (x : ℕ). s * x) (sym e) ∙ mul-add s (s - 1) 1 in
        let q : (t + 1) * t ≡ t * t + 1 * t = add-mul t 1 t in
        omega arith

only : (n s t : ℕ) → s * s < n + s → n ≤ s * s + s → t * t < n + t → n ≤ t * t + t → s ≡ t
only n s t a b c d = le_antisymm (no_more n s t a d) (no_more n t s c b)

-- q is the whole part of the root of n: the nearest number is q or the next one, and never half way
nearest_is : (o : Ordering) (n q s : ℕ) → Cmp o (4 * n) ((2 * q + 1) * (2 * q + 1)) → 0 < q → q * q ≤ n → n < (q + 1) * (q + 1) → s * s < n + s → n ≤ s * s + s → nearest q o ≡ s
nearest_is Ordering.lt n q s h Q a b c d = only n q s (omega arith) (omega (arith, odd_square q)) c d
nearest_is Ordering.eq n q s h Q a b c d = absurd (even n (q * q) q (h ∙ odd_square q))
  where
    even : (n qq q : ℕ) → 4 * n ≡ 4 * qq + 4 * q + 1 → ⊥
    even n qq q e = omega arith
nearest_is Ordering.gt n q s h Q a b c d = only n (suc q) s (next (omega (arith, odd_square q, square_next q))) (above (omega (arith, odd_square q, square_next q))) c d
  where
    one : q + 1 ≡ suc q
    one = omega arith

    next : (q + 1) * (q + 1) < n + (q + 1) → suc q * suc q < n + suc q
    next h = subst (λ (x : ℕ). x * x < n + x) one h

    above : n ≤ (q + 1) * (q + 1) + (q + 1) → n ≤ suc q * suc q + suc q
    above h = subst (λ (x : ℕ). n ≤ x * x + x) one h

-- ---- `root_units`, from its w and its k on
abbrev pub core : ℕ → ℕ → ℕ → Float
core v w k =
    let q = w / 2 ^ k in
    units binary64 false (nearest q (compare (4 * v) ((2 * q + 1) * 2 ^ k * ((2 * q + 1) * 2 ^ k)))) k

pub root_units_is : (v : ℕ) → root_units binary64 v ≡ core v (isqrt v) (size (isqrt v) - 53)
unfolding root_units
root_units_is v = refl

pub size_exact : (w k : ℕ) → 2 ^ (52 + k) ≤ w → w < 2 ^ (53 + k) → size w - 53 ≡ k
size_exact w k lo hi =
    let a : size w ≤ 53 + k = size-le w (53 + k) hi in
    let b : 52 + k < size w = lt_of_not-le (λ (g : size w ≤ 52 + k). not-le_of_lt (lt_of_lt_of_le (size-lt w) (pow_mono g)) lo) in
    omega arith

module _ (m s k w : ℕ) (sig : Significand m) (near : Nearest m s) (is : Whole (m * 2 ^ 52 * (2 ^ k * 2 ^ k)) w) where
  pp_pos : 0 < 2 ^ k * 2 ^ k
  pp_pos = mul-pos (pow_pos k) (pow_pos k)

  w_lt : w < 2 ^ 53 * 2 ^ k
  w_lt =
      lt_of_squares
      (lt_of_le_of_lt is.below
      (lt_of_lt_of_le (mul-lt-mul_of_pos_right {m = m * 2 ^ 52} {n = 2 ^ 106} (omega arith) pp_pos) (le_of_eq (sym (times_squared (2 ^ 53) (2 ^ k))))))

  w_ge : 2 ^ 52 * 2 ^ k ≤ w
  w_ge =
      let h : 2 ^ 52 * 2 ^ k < w + 1 =
      lt_of_squares
      (lt_of_le_of_lt (le_of_eq (times_squared (2 ^ 52) (2 ^ k)))
      (lt_of_le_of_lt (mul-le-mul_right {m = 2 ^ 104} {n = m * 2 ^ 52} (2 ^ k * 2 ^ k) (omega arith)) is.above)) in
      omega arith

  dropped : size w - 53 ≡ k
  dropped = size_exact w k (le_trans (le_of_eq (pow-add 2 52 k)) w_ge) (lt_of_lt_of_le w_lt (le_of_eq (sym (pow-add 2 53 k))))

  kept_pos : 0 < w / 2 ^ k
  kept_pos = (le-div_iff_mul-le (pow_pos k)).1 (le_trans (mul-le-mul_right {m = 1} {n = 2 ^ 52} (2 ^ k) (omega arith)) w_ge)

  kept_below : w / 2 ^ k * (w / 2 ^ k) ≤ m * 2 ^ 52
  kept_below = le_of_mul-le-mul_right (le_trans (le_of_eq (sym (times_squared (w / 2 ^ k) (2 ^ k)))) (cut_below (m * 2 ^ 52 * (2 ^ k * 2 ^ k)) w k is)) pp_pos

  kept_above : m * 2 ^ 52 < (w / 2 ^ k + 1) * (w / 2 ^ k + 1)
  kept_above = lt_of_mul-lt-mul_right (2 ^ k * 2 ^ k) (lt_of_lt_of_le (cut_above (m * 2 ^ 52 * (2 ^ k * 2 ^ k)) w k is) (le_of_eq (times_squared (w / 2 ^ k + 1) (2 ^ k))))

  rounds : core (m * 2 ^ 52 * (2 ^ k * 2 ^ k)) w k ≡ units binary64 false s k
  rounds =
      let v = m * 2 ^ 52 * (2 ^ k * 2 ^ k) in
      let q = w / 2 ^ k in
      let half = (2 * q + 1) * 2 ^ k in
      let o = compare (4 * v) (half * half) in
      let c : Cmp o (4 * (m * 2 ^ 52) * (2 ^ k * 2 ^ k)) ((2 * q + 1) * (2 * q + 1) * (2 ^ k * 2 ^ k)) =
      subst (λ (x : ℕ). Cmp o x ((2 * q + 1) * (2 * q + 1) * (2 ^ k * 2 ^ k))) (sym (mul_assoc 4 (m * 2 ^ 52) (2 ^ k * 2 ^ k)))
      (subst (λ (x : ℕ). Cmp o (4 * v) x) (times_squared (2 * q + 1) (2 ^ k)) (cmp (4 * v) (half * half))) in
      ap (λ (x : ℕ). units binary64 false x k)
      (nearest_is o (m * 2 ^ 52) q s (cmp_scaled o (4 * (m * 2 ^ 52)) ((2 * q + 1) * (2 * q + 1)) (2 ^ k * 2 ^ k) pp_pos c) kept_pos kept_below kept_above near.above near.below)

pub root_units_at : (m s k : ℕ) → Significand m → Nearest m s → root_units binary64 (m * 2 ^ 52 * (2 ^ k * 2 ^ k)) ≡ units binary64 false s k
root_units_at m s k sig near =
    let v = m * 2 ^ 52 * (2 ^ k * 2 ^ k) in
    root_units_is v ∙ ap (λ (j : ℕ). core v (isqrt v) j) (dropped m s k (isqrt v) sig near (isqrt_is v)) ∙ rounds m s k (isqrt v) sig near (isqrt_is v)
