-- No double is as near to the exact root of x as `root binary64 x` is (`specs/Correct.antt`).
-- Assumes nothing.
use Rattle.std.proofs.Common.{◌≡◌, ℕ, suc, ◌+◌, ◌-◌, ◌*◌, ◌/◌, ◌%◌, ◌^◌, ◌<◌, ◌≤◌, true, false, T, ◌⊎◌, sym, refl, ap, ◌∙◌, subst, inl, inr, le_trans, le_of_eq, lt_of_lt_of_le, le_of_suc-le-suc, lt_of_le_of_lt, le_of_lt, mul-le-mul_right, mul_assoc, add-mul, mul-le-mul_left, mul-lt-mul_of_pos_right, mul-pos, one-mul, lt_of_not-le, le-div_iff_mul-le, mul-one, not-le_of_lt, mul_left_comm, add-one, arith, lit<, ltb→lt, pow_pos, pow_mono, pow-add}
use Rattle.std.proofs.lemmas.Float.{T_from_true}
use Prim.Native.Nat.{compare, Ordering}
use native.Mathlib.Nat.{mul-mul-mul_comm, eq_of_mul-eq-mul_right}
use lib.Ieee.{Float, nan, inf, fin, binary64, size, fits, nearest}
use lib.Ieee.Digits.{size-lt, size-le, size_reaches}
use lib.Ieee.Exact.{units_val}
use lib.Ieee.Fits.{odd-fits, kept-lt, nearest-le}
use Rattle.numeric.specs.Root.{isqrt, root}
use Rattle.numeric.specs.Correct.{root_of, NearestDouble, RootIsNearest}
use Rattle.numeric.proofs.Numbers.{le_or_lt, odd_square, lt_of_squares, times_squared}
use Rattle.numeric.proofs.Compare.{Cmp, cmp}
use Rattle.numeric.proofs.Whole.{Whole, isqrt_is, cut_below, cut_above}
use Rattle.numeric.proofs.Values.{units_is, root_of_units}
use Rattle.numeric.proofs.Rounding.{core, root_units_is}
use Rattle.numeric.proofs.Rounded.{shift_of}
use Rattle.numeric.proofs.Choice.{size_is, Around, lower, upper, is_nearest_lem}

-- ---- squares in order

sq_lt : (a b : ℕ) → a < b → a * a < b * b
sq_lt a b h =
    lt_of_le_of_lt (mul-le-mul_left a (le_of_lt h)) (mul-lt-mul_of_pos_right h (positive_b a b h))
  where
    positive_b : (a b : ℕ) → a < b → 0 < b
    positive_b a b h = omega arith

four : (a : ℕ) → (a + a) * (a + a) ≡ 4 * (a * a)
four a = ap (λ (x : ℕ). x * x) (twice a) ∙ mul-mul-mul_comm 2 a 2 a
  where
    twice : (a : ℕ) → a + a ≡ 2 * a
    twice a = omega arith

four_below : (a v : ℕ) → a * a ≤ v → (a + a) * (a + a) ≤ 4 * v
four_below a v h = omega (arith, four a)

four_above : (a v : ℕ) → v < a * a → 4 * v < (a + a) * (a + a)
four_above a v h = omega (arith, four a)

-- ---- never a tie: the middle between two doubles is not the root of a double m * 2 ^ i, since its
-- square has an odd factor d of more digits

no_tie : (m i d k : ℕ) → m < d → d % 2 ≡ 1 → m * 2 ^ i ≡ d * 2 ^ k → ⊥
no_tie m i d k M D e = by_place (le_or_lt i k)
  where
    back : (i k : ℕ) → i ≤ k → k ≡ k - i + i
    back i k h = omega arith

    above : (i k : ℕ) → k < i → i ≡ 1 + (i - suc k) + k
    above i k h = omega arith

    apart : (t : ℕ) → 2 ^ (1 + t + k) ≡ 2 * 2 ^ t * 2 ^ k
    apart t = pow-add 2 (1 + t) k ∙ ap (λ (x : ℕ). x * 2 ^ k) (pow-add 2 1 t)

    even : (d m p : ℕ) → d % 2 ≡ 1 → m * (2 * p) ≡ d → ⊥
    even d m p D e = let t : m * (2 * p) ≡ 2 * (m * p) = mul_left_comm m 2 p in omega arith

    by_place : (i ≤ k) ⊎ (k < i) → ⊥
    by_place (inl h) =
        let s : m ≡ d * 2 ^ (k - i) =
        eq_of_mul-eq-mul_right (2 ^ i) (pow_pos i) m (d * 2 ^ (k - i))
        (e
        ∙ ap (λ (x : ℕ). d * 2 ^ x) (back i k h)
        ∙ ap (λ (x : ℕ). d * x) (pow-add 2 (k - i) i)
        ∙ sym (mul_assoc d (2 ^ (k - i)) (2 ^ i))) in
        let up : d * 1 ≤ d * 2 ^ (k - i) = mul-le-mul_left d (pow_pos (k - i)) in
        not-le_of_lt M (le_trans (le_of_eq (sym (mul-one d))) (le_trans up (le_of_eq (sym s))))
    by_place (inr h) =
        even d m (2 ^ (i - suc k)) D
        (eq_of_mul-eq-mul_right (2 ^ k) (pow_pos k) (m * (2 * 2 ^ (i - suc k))) d
        (mul_assoc m (2 * 2 ^ (i - suc k)) (2 ^ k)
        ∙ ap (λ (x : ℕ). m * x) (sym (apart (i - suc k)))
        ∙ sym (ap (λ (x : ℕ). m * 2 ^ x) (above i k h))
        ∙ e))

-- ---- the whole part w of the root has from 538 to 1586 digits

record Spread (w : ℕ) : Type 0 where
  least : 538 ≤ size w
  most : size w ≤ 1586

spread : (X w : ℕ) → 0 < X → X < 2 ^ 2098 → Whole (X * 2 ^ 1074) w → Spread w
spread X w P H is = record {
  least = lt_of_not-le (λ (g : size w ≤ 537). not-le_of_lt (lt_of_lt_of_le (size-lt w) (pow_mono g)) reaches);
  most = size-le w 1586 (lt_of_squares (lt_of_le_of_lt is.below ends));
}
  where
    ends : X * 2 ^ 1074 < 2 ^ 1586 * 2 ^ 1586
    ends = lt_of_lt_of_le (mul-lt-mul_of_pos_right H (pow_pos 1074)) (le_of_eq refl)

    reaches : 2 ^ 537 ≤ w
    reaches =
        le_of_suc-le-suc
        (lt_of_squares
        (lt_of_le_of_lt (le_trans (le_of_eq (sym (one-mul (2 ^ 1074)))) (mul-le-mul_right (2 ^ 1074) P))
        (subst (λ (z : ℕ). X * 2 ^ 1074 < z * z) (add-one w) is.above)))

-- ---- the digits that are kept, q, and the dropped ones, k

module _ (m j w : ℕ) (M : m < 2 ^ 53) (is : Whole (m * 2 ^ j * 2 ^ 1074) w) (sp : Spread w) where
  abbrev v : ℕ
  v = m * 2 ^ j * 2 ^ 1074

  abbrev k : ℕ
  k = size w - 53

  abbrev q : ℕ
  q = w / 2 ^ k

  abbrev o : Ordering
  o = compare (4 * v) ((2 * q + 1) * 2 ^ k * ((2 * q + 1) * 2 ^ k))

  q_least : 2 ^ 52 ≤ q
  q_least =
      (le-div_iff_mul-le (pow_pos k)).1
      (le_trans (le_of_eq (sym (pow-add 2 52 k))) (size_reaches w (52 + k) (omega arith)))

  middle : q * 2 ^ k + (q + 1) * 2 ^ k ≡ (2 * q + 1) * 2 ^ k
  middle = sym (add-mul q (q + 1) (2 ^ k)) ∙ ap (λ (x : ℕ). x * 2 ^ k) (both q)
    where
      both : (q : ℕ) → q + (q + 1) ≡ 2 * q + 1
      both q = omega arith

  not_equal : 4 * v ≡ (2 * q + 1) * 2 ^ k * ((2 * q + 1) * 2 ^ k) → ⊥
  not_equal e =
      no_tie m (j + 1076) ((2 * q + 1) * (2 * q + 1)) (k + k) (larger m q M q_least) (uneven q)
      (ap (λ (x : ℕ). m * x) (pow-add 2 j 1076)
      ∙ sym (mul_assoc m (2 ^ j) (2 ^ 1076))
      ∙ sym (mul_left_comm 4 (m * 2 ^ j) (2 ^ 1074))
      ∙ e
      ∙ times_squared (2 * q + 1) (2 ^ k)
      ∙ ap (λ (x : ℕ). (2 * q + 1) * (2 * q + 1) * x) (sym (pow-add 2 k k)))
    where
      larger : (m q : ℕ) → m < 2 ^ 53 → 2 ^ 52 ≤ q → m < (2 * q + 1) * (2 * q + 1)
      larger m q M Q = omega (arith, odd_square q)

      uneven : (q : ℕ) → (2 * q + 1) * (2 * q + 1) % 2 ≡ 1
      uneven q = omega (arith, odd_square q)

  -- the result is a double: 53 digits, or the power of two after them, and no overflow
  most : nearest q o ≤ 2 ^ 53
  most = le_trans (nearest-le q o) (kept-lt 53 w)

  under : nearest q o * 2 ^ k < 2 ^ 2098
  under =
      let room : 53 + k ≤ 1586 = omega arith in
      lt_of_le_of_lt (mul-le-mul_right (2 ^ k) most)
      (lt_of_le_of_lt (le_trans (le_of_eq (sym (pow-add 2 53 k))) (pow_mono room)) (lit< tt))

  around : Around (root_of v) (lower q k) (upper q k)
  around = record {
    rises = sq_lt;
    from = four_below (lower q k) v (cut_below v w k is);
    under = four_above (upper q k) v (cut_above v w k is);
  }

  double : T (fits binary64 (core v w k))
  double =
      subst (λ (y : Float). T (fits binary64 y)) (sym (units_is (nearest q o) k under))
      (odd-fits binary64 54 false (nearest q o) k (lt_of_le_of_lt most (lit< tt)) most under)

  nearest_to_root : NearestDouble false (root_of v) (λ n. ⊥) (core v w k)
  nearest_to_root =
      is_nearest_lem q k (root_of v) around (λ n. ⊥)
      (λ e. not_equal (e ∙ ap (λ (x : ℕ). x * x) middle)) q_least o
      (subst (λ (x : ℕ). Cmp o (4 * v) (x * x)) (sym middle)
      (cmp (4 * v) ((2 * q + 1) * 2 ^ k * ((2 * q + 1) * 2 ^ k))))
      false (core v w k) double (units_val binary64 false (nearest q o) k under)

pub root_is_nearest : (x : Float) → T (fits binary64 x) → RootIsNearest x (root binary64 x)
unfolding RootIsNearest
root_is_nearest nan F P = absurd P
root_is_nearest (inf s) F P = absurd P
root_is_nearest (fin true m e) F P = absurd P
root_is_nearest (fin false m e) F P =
    let x = fin false m e in
    let u = shift_of binary64 false m e F in
    let j = u.shift in
    let v = m * 2 ^ j * 2 ^ 1074 in
    let X : 0 < m * 2 ^ j = mul-pos (ltb→lt 0 m P) (pow_pos j) in
    let is = isqrt_is v in
    let found = root_of_units binary64 x (m * 2 ^ j) (refl, u.equal) X ∙ root_units_is v in
    subst (λ (z : ℕ). NearestDouble false (root_of (z * 2 ^ 1074)) (λ n. ⊥) (root binary64 x))
    (sym (size_is false m e u))
    (subst (λ (r : Float). NearestDouble false (root_of v) (λ n. ⊥) r) (sym found)
    (nearest_to_root m j (isqrt v) u.digits is (spread (m * 2 ^ j) (isqrt v) X u.under is)))

-- the same of what equals that root
pub nearest_of_root : (x r : Float) → fits binary64 x ≡ true → r ≡ root binary64 x → RootIsNearest x r
nearest_of_root x r F e = subst (RootIsNearest x) (sym e) (root_is_nearest x (T_from_true _ F))
