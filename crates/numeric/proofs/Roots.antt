-- The root of a number by its pattern, and what makes a double that root. Assumes nothing.
use Rattle.std.proofs.Common.{◌≡◌, ℕ, zero, suc, ◌+◌, ◌-◌, ◌*◌, ◌/◌, ◌%◌, ◌^◌, ◌<◌, ◌≤◌, true, false}
use Rattle.std.proofs.Common.{◌⊎◌, sym, refl, ap, ◌∙◌, inl, inr, add_comm, lit<, mul-one, eq-or-lt_of_le, arith}
use Rattle.std.proofs.lemmas.Float.{T_from_true}
use mathlib.Core.Bool.{false≢true}
use lib.Count.{count_leading_zeros}
use lib.Ieee.{Float, nan, inf, fin, is_nan, binary64, fits, units, of_fields, of_bits, to_bits, neg, div}
use lib.Ieee.Bits.{of_bits-to_bits, to_bits-lt}
use Rattle.numeric.specs.Root.{root, root_units}
use Rattle.numeric.specs.Inner.Bits.{bits_of}
use Rattle.numeric.specs.Inner.Step.{Digits, Nearest, is_nearest}
use Rattle.numeric.proofs.Numbers.{near_of_test}
use Rattle.numeric.proofs.Correct.{nearest_of_root}
use Rattle.numeric.proofs.Patterns.{no_nan, bits_of_number, at_most_inf, minus_at_most}
use Rattle.numeric.proofs.Rounding.{root_units_at}
use Rattle.numeric.proofs.Values.{small_is, normal_is, root_of_odd, root_of_minus, units_pattern}
use Rattle.numeric.proofs.Values.{sign_clear, sign_set, field_low, field_mid, field_top}
use Rattle.numeric.proofs.Exponents.{together, even_exponent, significand, lead}

-- ---- zero and the subnormal numbers

pub root_of_zero : root binary64 (of_bits binary64 0) ≡ of_bits binary64 0
unfolding root of_bits
root_of_zero = refl

-- its digits shifted up, and its exponent down
pub root_of_small : (b : ℕ) → 0 < b → b < 2 ^ 52
    → root binary64 (of_bits binary64 b) ≡ root_units binary64 (b * 2 ^ (count_leading_zeros 64 b - 11) % 2 ^ 64 * 2 ^ (1074 - (count_leading_zeros 64 b - 11)))
root_of_small b B h =
    ap (root binary64) (small_is b h)
    ∙ root_of_odd b 0 B
    ∙ ap (root_units binary64) (ap (λ (x : ℕ). x * 2 ^ 1074) (mul-one b) ∙ sym (lead b B h).value)

-- ---- with a minus sign

pub root_of_minus_zero : root binary64 (of_bits binary64 (2 ^ 63)) ≡ neg (of_bits binary64 0)
unfolding root of_bits neg
root_of_minus_zero = refl

pub no_number : div binary64 (of_bits binary64 0) (of_bits binary64 0) ≡ nan
unfolding div of_bits
no_number = refl

minus_infinity : root binary64 (inf true) ≡ nan
unfolding root
minus_infinity = refl

-- by the exponent's field x and the digits t
root_of_fields : (x t : ℕ) → (x ≡ 0 → 0 < t) → (x ≡ 2047 → t ≡ 0) → x ≤ 2047 → root binary64 (of_fields binary64 true x t) ≡ nan
root_of_fields zero t low high l = ap (root binary64) (field_low true t) ∙ root_of_minus t 0 (low refl)
root_of_fields (suc x) t low high l = go (eq-or-lt_of_le l)
  where
    go : (suc x ≡ 2047) ⊎ (suc x < 2047) → root binary64 (of_fields binary64 true (suc x) t) ≡ nan
    go (inl e) = ap (λ (y : ℕ). root binary64 (of_fields binary64 true y t)) e ∙ ap (λ (y : ℕ). root binary64 (of_fields binary64 true 2047 y)) (high e) ∙ ap (root binary64) (field_top true) ∙ minus_infinity
    go (inr h) = ap (root binary64) (field_mid true x t h) ∙ root_of_minus (2 ^ 52 + t) x (omega arith)

pub root_below_zero : (b : ℕ) → 2 ^ 63 ≤ b → b ≤ 4095 * 2 ^ 52 → (b ≡ 2 ^ 63 → ⊥) → root binary64 (of_bits binary64 b) ≡ nan
root_below_zero b l h n = ap (root binary64) (sign_set b l) ∙ root_of_fields (b % 2 ^ 63 / 2 ^ 52) (b % 2 ^ 52) (λ e. omega arith) (λ e. omega arith) (omega arith)

-- ---- a normal number above zero

pub root_of_normal : (b : ℕ) → 2 ^ 52 ≤ b → b < 2047 * 2 ^ 52 → root binary64 (of_bits binary64 b) ≡ root_units binary64 ((b % 2 ^ 52 + 2 ^ 52) * 2 ^ (b / 2 ^ 52 + 1073))
root_of_normal b l h =
    ap (root binary64) (normal_is b l h)
    ∙ root_of_odd (2 ^ 52 + b % 2 ^ 52) (b / 2 ^ 52 - 1) (omega arith)
    ∙ ap (root_units binary64) (together (2 ^ 52 + b % 2 ^ 52) (b / 2 ^ 52 - 1) (b / 2 ^ 52 + 1073) (omega arith) ∙ ap (λ (x : ℕ). x * 2 ^ (b / 2 ^ 52 + 1073)) (add_comm (2 ^ 52) (b % 2 ^ 52)))

-- the same of a double by its bits, whose digits are d
pub root_of_number : (x : Float) (b d : ℕ) → fits binary64 x ≡ true → b ≡ bits_of x → d ≡ b % 2 ^ 52 + 2 ^ 52
    → 2 ^ 52 ≤ b → b < 2047 * 2 ^ 52 → root_units binary64 (d * 2 ^ (b / 2 ^ 52 + 1073)) ≡ root binary64 x
root_of_number x b d F bits digits lo hi =
    let same : to_bits binary64 x ≡ b = bits_of_number x (omega (arith, bits)) ∙ sym bits in
    ap (λ (z : ℕ). root_units binary64 (z * 2 ^ (b / 2 ^ 52 + 1073))) digits
    ∙ sym (root_of_normal b lo hi)
    ∙ ap (root binary64) (ap (of_bits binary64) (sym same) ∙ of_bits-to_bits binary64 x (T_from_true _ F))

-- of digits and an exponent: the nearest number s, as many digits further up as the even exponent
-- has left
pub root_at : (digits e s : ℕ) → Digits digits → 52 ≤ e → Nearest (digits * (1 + e % 2)) s
    → units binary64 false s (e / 2 - 26) ≡ root_units binary64 (digits * 2 ^ e)
root_at digits e s d lo n =
    sym (root_units_at (digits * (1 + e % 2)) s (e / 2 - 26) (significand digits e d) n)
    ∙ ap (root_units binary64) (sym (even_exponent digits e lo))

-- a double whose digits s are nearest to the root, and whose field is that of the root
pub guessed : (g : Float) (b s digits e : ℕ) → fits binary64 g ≡ true → b ≡ bits_of g → s ≡ b % 2 ^ 52 + 2 ^ 52
    → Digits digits → 1022 ≤ e → e ≤ 3119 → b / 2 ^ 52 ≡ e / 2 - 25
    → is_nearest (digits * (1 + e % 2)) s ≡ true → g ≡ root_units binary64 (digits * 2 ^ e)
guessed g b s digits e F bits low d lo hi field test =
    let n : Nearest (digits * (1 + e % 2)) s = near_of_test _ s (significand digits e d) test in
    let place : bits_of g ≡ (e / 2 - 26) * 2 ^ 52 + s = omega arith in
    sym (of_bits-to_bits binary64 g (T_from_true _ F))
    ∙ ap (of_bits binary64) (bits_of_number g (omega (arith, place)) ∙ place)
    ∙ sym (units_pattern s (e / 2 - 26) n.digits.least n.digits.most (omega arith))
    ∙ root_at digits e s d (omega arith) n

-- ---- every double

pub root_of_nan : (x : Float) → is_nan x ≡ true → x ≡ root binary64 x
unfolding root is_nan
root_of_nan nan e = refl
root_of_nan (inf s) e = absurd (false≢true e)
root_of_nan (fin s m d) e = absurd (false≢true e)

root_of_plus_infinity : root binary64 (inf false) ≡ inf false
unfolding root
root_of_plus_infinity = refl

pub root_of_infinity : (x : Float) → fits binary64 x ≡ true → is_nan x ≡ false → to_bits binary64 x / 2 ^ 52 ≡ 2047
    → x ≡ root binary64 x
root_of_infinity x F n field =
    let fit = T_from_true _ F in
    let infinite : to_bits binary64 x ≡ 2047 * 2 ^ 52 = omega (arith, at_most_inf x fit n, to_bits-lt binary64 x fit) in
    let is : x ≡ inf false =
    sym (of_bits-to_bits binary64 x fit) ∙ ap (of_bits binary64) infinite ∙ sign_clear (2047 * 2 ^ 52) (lit< tt) ∙ field_top false in
    is ∙ sym (ap (root binary64) is ∙ root_of_plus_infinity)

pub root_of_pattern : (x : Float) → fits binary64 x ≡ true
    → root binary64 (of_bits binary64 (to_bits binary64 x)) ≡ root binary64 x
root_of_pattern x F = ap (root binary64) (of_bits-to_bits binary64 x (T_from_true _ F))

-- ---- what the functions of the root are proved by

pub ruleset sqrt_laws = (root_of_nan, root_of_infinity, root_of_pattern, nearest_of_root, minus_at_most)

pub ruleset small_laws = (lead, root_of_zero, root_of_small)

pub ruleset negative_laws = (root_of_minus_zero, no_number, root_below_zero)

pub ruleset scaled_laws = (root_at, near_of_test, significand)

pub ruleset placed_laws = (no_nan, units_pattern)
