-- The conversion as a whole, over the numbers that its steps give: c * 2 ^ a is hi * 2 ^ 64 + lo
-- with its highest bit at 127, that by 5 ^ k is qh * 2 ^ 64 + ql, and this again, moved left by b,
-- is w * 2 ^ 64 + l. Assumes nothing.
use mathlib.Core.Path.{◌≡◌, sym, ap, ◌∙◌, subst}
use Rattle.std.specs.Prelude.{Bool, true, false, ◌||◌, nat_lt}
use Rattle.std.proofs.Common.{refl, ltb→lt, nltb→le}
use Rattle.std.proofs.lemmas.Float.{T_from_true, T_from_false}
use Prim.Native.Nat.{ℕ, suc, ◌+◌, ◌-◌, ◌*◌, ◌/◌, ◌%◌, ◌^◌, ◌≤◌, ◌<◌, min}
use native.Mathlib.Nat.{le-add_right, le_trans, le_of_eq, lt_of_not-le, not-le_of_lt, zero-lt-suc, mul-le-mul_left, mul-le-mul_right, pow-le-pow_right, le-div_iff_mul-le}
use native.Mathlib.Omega.{arith}
use lib.Dec.{lit≤}
use lib.Arith.{digits_lt}
use lib.Pow.{pow-add, pow_mono}
use lib.Ieee.{binary64, units, round}
use lib.Ieee.Nearest.{closest}
use Rattle.decimal.specs.Inner.Steps.{wide, number, digit, IsAligned, IsQuotient}
use Rattle.decimal.specs.declared.divide.Aligned.{Aligned}
use Rattle.decimal.specs.declared.divide.Quotient.{Quotient}
use Rattle.decimal.proofs.Fives.{five_pos}
use Rattle.decimal.proofs.Rounding.{carried, word_rounded, fraction_rounded}
use Rattle.decimal.proofs.Scaled.{rounds_to}

-- a word with its highest bit set is above all that follows it
pub from_top : (hi lo : ℕ) → 2 ^ 63 ≤ hi → 2 ^ 127 ≤ wide hi lo
from_top hi lo h = le_trans (mul-le-mul_right (2 ^ 64) h) (le-add_right (hi * 2 ^ 64) lo)

to_top : (hi lo : ℕ) → hi < 2 ^ 64 → lo < 2 ^ 64 → wide hi lo < 2 ^ 128
to_top hi lo h l = digits_lt h l

-- the quotient has 62 digits at least
pub quotient_from : (n k : ℕ) → k ≤ 28 → 2 ^ 127 ≤ n → 2 ^ 61 ≤ n / 5 ^ k
quotient_from n k K h =
    (le-div_iff_mul-le (five_pos k)).1 (le_trans (mul-le-mul_left (2 ^ 61) (pow-le-pow_right (zero-lt-suc 4) K)) (le_trans (lit≤ tt) h))

-- so it is moved left by 66 at most
shift_at_most : (q b : ℕ) → 2 ^ 61 ≤ q → q * 2 ^ b < 2 ^ 128 → b < 67
shift_at_most q b h t =
    cut b (lt_of_not-le (λ (g : 128 ≤ 61 + b). not-le_of_lt t (le_trans (pow_mono g) (le_trans (le_of_eq (pow-add 2 61 b)) (mul-le-mul_right (2 ^ b) h)))))
  where
    cut : (b : ℕ) → 61 + b < 128 → b < 67
    cut b h = omega arith

-- ---- what follows a word, as a digit

pub one_digit : (b : Bool) → digit b ≤ 1
one_digit true = omega arith
one_digit false = omega arith

either : (l m : ℕ) → digit (nat_lt 0 l || nat_lt 0 m) ≡ min 1 (l + min 1 m)
either l m = by_test (nat_lt 0 l) (nat_lt 0 m) refl refl
  where
    by_test : (s t : Bool) → nat_lt 0 l ≡ s → nat_lt 0 m ≡ t → digit (s || t) ≡ min 1 (l + min 1 m)
    by_test true t h k = let p : 0 < l = ltb→lt 0 l (T_from_true _ h) in omega arith
    by_test false true h k = let p : 0 < m = ltb→lt 0 m (T_from_true _ k) in omega arith
    by_test false false h k =
        let p : l ≤ 0 = nltb→le 0 l (T_from_false _ h) in
        let q : m ≤ 0 = nltb→le 0 m (T_from_false _ k) in
        omega arith

module _ (c k a hi lo : ℕ) (K : k ≤ 28) (A : a < 128) (is : wide hi lo ≡ c * 2 ^ a) (top : 2 ^ 63 ≤ hi) where
  abbrev n : ℕ
  n = wide hi lo

  module _ (qh ql b w l : ℕ) (r f : Bool) (whole : wide qh ql ≡ n / 5 ^ k) (sticky : r ≡ nat_lt 0 (n % 5 ^ k)) (moved : wide w l ≡ wide qh ql * 2 ^ b) (first : 2 ^ 63 ≤ w) (W : w < 2 ^ 64) (L : l < 2 ^ 64) (follows : f ≡ (nat_lt 0 l || r)) where
    from : n / 5 ^ k * 2 ^ b ≡ wide w l
    from = ap (λ (z : ℕ). z * 2 ^ b) (sym whole) ∙ sym moved

    B : b < 67
    B = shift_at_most (n / 5 ^ k) b (quotient_from n k K (from_top hi lo top)) (subst (λ (z : ℕ). z < 2 ^ 128) (sym from) (to_top w l W L))

    abbrev x : ℕ
    x = 74 - b

    abbrev e : ℕ
    e = 1149 - a - b - k

    places : x + b ≡ 74
    places = let h = B in left b h
      where
        left : (b : ℕ) → b < 67 → 74 - b + b ≡ 74
        left b h = omega arith

    exponents : e + a + b + k ≡ 1149
    exponents = left a b k A B K
      where
        left : (a b k : ℕ) → a < 128 → b < 67 → k ≤ 28 → 1149 - a - b - k + a + b + k ≡ 1149
        left a b k p q s = omega arith

    f_is : digit f ≡ min 1 (l + min 1 (n % 5 ^ k))
    f_is = ap digit (follows ∙ ap (λ (t : Bool). nat_lt 0 l || t) sticky) ∙ either l (n % 5 ^ k)

    nearest_is : closest n (5 ^ k * 2 ^ suc x) ≡ closest (2 * w + digit f) 4096
    nearest_is =
        fraction_rounded n (5 ^ k) b x w l (five_pos k) L places from ∙ ap (carried w) (sym f_is) ∙ word_rounded w (digit f) (one_digit f)

    pub converted : (s : Bool) → round binary64 s c (10 ^ k) ≡ units binary64 s (closest (2 * w + digit f) 4096) e
    converted s =
        rounds_to c k a b e x places exponents
        (subst (λ (z : ℕ). 2 ^ 127 ≤ z / 5 ^ k * 2 ^ b) is (subst (λ (z : ℕ). 2 ^ 127 ≤ z) (sym from) (from_top w l first)))
        (subst (λ (z : ℕ). z / 5 ^ k * 2 ^ b < 2 ^ 128) is (subst (λ (z : ℕ). z < 2 ^ 128) (sym from) (to_top w l W L)))
        s
        ∙ ap (λ (z : ℕ). units binary64 s z e) (ap (λ (z : ℕ). closest z (5 ^ k * 2 ^ suc x)) (sym is) ∙ nearest_is)

-- ---- the same of what the steps answer, c being the coefficient

module _ (c k : ℕ) (first : Aligned) (q : Quotient) (K : k ≤ 28) (a : IsAligned c first) (d : IsQuotient (number first.number) (5 ^ k) q) where
  pub quotient_pos : 0 < number q.whole
  quotient_pos =
      subst (λ (z : ℕ). 0 < z) (sym d.whole)
      (le_trans (lit≤ tt) (quotient_from (number first.number) k K (from_top first.number.high first.number.low a.top)))

  pub double_of : (top : Aligned) (follows s : Bool) → IsAligned (number q.whole) top → top.number.high < 2 ^ 64 → top.number.low < 2 ^ 64
      → follows ≡ (nat_lt 0 top.number.low || q.inexact)
      → round binary64 s c (10 ^ k) ≡ units binary64 s (closest (2 * top.number.high + digit follows) 4096) (1149 - first.shift - top.shift - k)
  double_of top follows s t high low f =
      converted c k first.shift first.number.high first.number.low K a.short a.same a.top
      q.whole.high q.whole.low top.shift top.number.high top.number.low q.inexact follows
      d.whole d.sticky t.same t.top high low f s
