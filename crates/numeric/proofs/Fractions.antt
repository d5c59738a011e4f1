-- `round` gives the double that is nearest to a fraction, at a tie the one with the even
-- significand (`specs/Correct.antt`), where the fraction is in the normal range and the result
-- finite. Assumes nothing.
use Rattle.std.proofs.Common.{◌≡◌, ℕ, ◌+◌, ◌-◌, ◌*◌, ◌/◌, ◌%◌, ◌^◌, ◌<◌, ◌≤◌, Bool, ◌⊎◌, sym, ap, ◌∙◌, subst, ap₂, inl, inr, le_trans, le_of_eq, mul-le-mul_right, mod-lt, mul_assoc, mul_comm, add-mul, mul-lt-mul_of_pos_right, mul-pos, one-mul, div-add-mod', le-div_iff_mul-le, arith, pow_pos, pow-add, shl_lt}
use Prim.Native.Nat.{compare, Ordering}
use native.Mathlib.Nat.{div-div-eq-div-mul}
use lib.Ieee.{Float, binary64, size, round}
use lib.Ieee.Digits.{size_reaches}
use lib.Ieee.Exact.{HasValue, units_val}
use lib.Ieee.Fits.{kept-lt, round_is, round-fits}
use lib.Ieee.Order.{drop, kept}
use lib.Ieee.Scale.{grid, overflow}
use Rattle.numeric.specs.Correct.{fraction, EvenSignificand, FractionIsNearest}
use Rattle.numeric.proofs.Numbers.{le_or_lt}
use Rattle.numeric.proofs.Compare.{Cmp, cmp}
use Rattle.numeric.proofs.Rounding.{size_exact}
use Rattle.numeric.proofs.Choice.{Around, lower, upper, is_nearest_lem}

-- ---- the value of a result that is finite, whatever its sign

pub round_value : (s : Bool) (a b : ℕ) → grid binary64 a b < overflow binary64
    → HasValue (round binary64 s a b) s (grid binary64 a b) (2 ^ 1074)
round_value s a b under =
    subst (λ (z : Float). HasValue z s (grid binary64 a b) (2 ^ 1074))
    (sym (round_is binary64 s a b))
    (units_val binary64 s (kept 53 (a * 2 ^ 1074) b) (drop 53 (a * 2 ^ 1074) b) under)

-- ---- q or the next number, whichever is even, is an even significand

even_at : (h j : ℕ) → 2 ^ 51 ≤ h → h < 2 ^ 52 → EvenSignificand (2 * h * 2 ^ j)
even_at h j lo hi = record { half = h; is = ap (λ (z : ℕ). 2 * h * 2 ^ z) (sym place) }
  where
    least : 2 ^ 52 ≤ 2 * h
    least = omega arith

    most : 2 * h < 2 ^ 53
    most = omega arith

    place : size (2 * h * 2 ^ j) - 53 ≡ j
    place =
        size_exact (2 * h * 2 ^ j) j
        (le_trans (le_of_eq (pow-add 2 52 j)) (mul-le-mul_right (2 ^ j) least)) (shl_lt 53 j most)

even_significand : (q k : ℕ) → 2 ^ 52 ≤ q → q < 2 ^ 53 → EvenSignificand ((q + q % 2) * 2 ^ k)
even_significand q k lo hi = by_carry (le_or_lt (2 ^ 53) (q + q % 2))
  where
    by_carry : (2 ^ 53 ≤ q + q % 2) ⊎ (q + q % 2 < 2 ^ 53) → EvenSignificand ((q + q % 2) * 2 ^ k)
    by_carry (inl h) =
        let carried : 2 ^ 53 ≡ q + q % 2 = omega arith in
        let same : 2 ^ 52 * 2 ^ (1 + k) ≡ (q + q % 2) * 2 ^ k =
        ap (λ (z : ℕ). 2 ^ 52 * z) (pow-add 2 1 k)
        ∙ sym (mul_assoc (2 ^ 52) 2 (2 ^ k))
        ∙ ap (λ (z : ℕ). z * 2 ^ k) carried in
        subst EvenSignificand same (even_at (2 ^ 51) (1 + k) (omega arith) (omega arith))
    by_carry (inr h) =
        let half = (q + q % 2) / 2 in
        let twice : 2 * half ≡ q + q % 2 = omega arith in
        subst (λ (z : ℕ). EvenSignificand (z * 2 ^ k)) twice
        (even_at half k (omega arith) (omega arith))

-- ---- n is x and a rest r below u: it lies between x and x + u, and how it compares with their
-- middle is how 2 * r compares with u

twice_from : (x r n : ℕ) → x + r ≡ n → x + x ≤ 2 * n
twice_from x r n e = omega arith

twice_under : (x r n u : ℕ) → x + r ≡ n → r < u → 2 * n < x + u + (x + u)
twice_under x r n u e h = omega arith

with_rest : (o : Ordering) (n x r u : ℕ) → x + r ≡ n → Cmp o (r * 2) u → Cmp o (2 * n) (x + (x + u))
with_rest Ordering.lt n x r u e c = omega arith
with_rest Ordering.eq n x r u e c = omega arith
with_rest Ordering.gt n x r u e c = omega arith

module _ (a b : ℕ) (B : 0 < b) (normal : 53 ≤ size (a * 2 ^ 1074 / b)) where
  abbrev n : ℕ
  n = a * 2 ^ 1074

  abbrev k : ℕ
  k = size (n / b) - 53

  abbrev u : ℕ
  u = b * 2 ^ k

  abbrev q : ℕ
  q = n / u

  abbrev o : Ordering
  o = compare (n % u * 2) u

  u_pos : 0 < u
  u_pos = mul-pos B (pow_pos k)

  -- q has 53 digits
  cut : n / b / 2 ^ k ≡ q
  cut = div-div-eq-div-mul n b (2 ^ k)

  all_digits : (z : ℕ) → 53 ≤ z → 52 + (z - 53) < z
  all_digits z h = omega arith

  q_least : 2 ^ 52 ≤ q
  q_least =
      subst (λ (z : ℕ). 2 ^ 52 ≤ z) cut
      ((le-div_iff_mul-le (pow_pos k)).1
      (le_trans (le_of_eq (sym (pow-add 2 52 k)))
      (size_reaches (n / b) (52 + k) (all_digits (size (n / b)) normal))))

  q_most : q < 2 ^ 53
  q_most = subst (λ (z : ℕ). z < 2 ^ 53) cut (kept-lt 53 (n / b))

  -- the two sizes next to n / b, times b
  times_b : (p : ℕ) → p * 2 ^ k * b ≡ p * u
  times_b p = mul_assoc p (2 ^ k) b ∙ ap (λ (z : ℕ). p * z) (mul_comm (2 ^ k) b)

  lower_is : lower q k * b ≡ q * u
  lower_is = times_b q

  upper_is : upper q k * b ≡ q * u + u
  upper_is = times_b (q + 1) ∙ add-mul q 1 u ∙ ap (λ (z : ℕ). q * u + z) (one-mul u)

  level_is : {y z : ℕ} (l h : ℕ) → l * b ≡ y → h * b ≡ z → (l + h) * b ≡ y + z
  level_is l h e f = add-mul l h b ∙ ap₂ (λ (y z : ℕ). y + z) e f

  with_remainder : q * u + n % u ≡ n
  with_remainder = div-add-mod' n u

  around : Around (fraction n b) (lower q k) (upper q k)
  around = record {
    rises = λ x y h. mul-lt-mul_of_pos_right h B;
    from =
        subst (λ (z : ℕ). z ≤ 2 * n) (sym (level_is (lower q k) (lower q k) lower_is lower_is))
        (twice_from (q * u) (n % u) n with_remainder);
    under =
        subst (λ (z : ℕ). 2 * n < z) (sym (level_is (upper q k) (upper q k) upper_is upper_is))
        (twice_under (q * u) (n % u) n u with_remainder (mod-lt n u_pos));
  }

  order : Cmp o (2 * n) ((lower q k + upper q k) * b)
  order =
      subst (λ (z : ℕ). Cmp o (2 * n) z) (sym (level_is (lower q k) (upper q k) lower_is upper_is))
      (with_rest o n (q * u) (n % u) u with_remainder (cmp (n % u * 2) u))

  pub round_is_nearest : grid binary64 a b < overflow binary64
      → (s : Bool) → FractionIsNearest s a b (round binary64 s a b)
  unfolding FractionIsNearest
  round_is_nearest under s =
      is_nearest_lem q k (fraction n b) around EvenSignificand
      (λ e. even_significand q k q_least q_most) q_least o order s
      (round binary64 s a b) (round-fits binary64 s a b) (round_value s a b under)
