-- Bit patterns of doubles. Assumes nothing.
use Rattle.std.proofs.Common.{◌≡◌, ℕ, ◌*◌, ◌%◌, ◌^◌, ◌≤◌, Bool, false, not, T, sym, refl, ap, ◌∙◌, subst, true≢false, arith, nltb→le}
use Rattle.std.proofs.lemmas.Float.{T_from_true, not_nan_f64_bits}
use mathlib.Core.Bool.{true, false≢true}
use lib.Ieee.{Float, nan, inf, fin, binary64, fits, is_nan, nan_bits, to_bits, ne}
use lib.Ieee.Compare.{nan_differs}
use lib.Ieee.Bits.{of_bits-to_bits, to_bits-lt, nan_bits_is, nan_bits_above}
use Rattle.numeric.specs.Inner.Bits.{bits_of}

-- up to the infinity's pattern there is no NaN
pub no_nan : (n : ℕ) → n ≤ 2047 * 2 ^ 52 → T (not (nan_bits binary64 n))
no_nan n h = not_nan_f64_bits n (omega arith)

-- what equals itself is no NaN
pub same_no_nan : (x : Float) → ne x x ≡ false → T (not (is_nan x))
unfolding is_nan
same_no_nan nan e = absurd (true≢false (sym nan_differs ∙ e))
same_no_nan (inf s) e = tt
same_no_nan (fin s m e) h = tt

-- the pattern of what is no NaN is, without its sign, the infinity's at most
pub at_most_inf : (x : Float) → T (fits binary64 x) → is_nan x ≡ false → to_bits binary64 x % 2 ^ 63 ≤ 2047 * 2 ^ 52
at_most_inf x F n =
    let b = to_bits binary64 x in
    let same : nan_bits binary64 b ≡ false = nan_bits_is binary64 b ∙ ap is_nan (of_bits-to_bits binary64 x F) ∙ n in
    nltb→le (2047 * 2 ^ 52) (b % 2 ^ 63)
    (subst (λ (t : Bool). T (not t)) (sym same ∙ nan_bits_above binary64 b) tt)

pub minus_at_most : (x : Float) → fits binary64 x ≡ true → is_nan x ≡ false → to_bits binary64 x ≤ 4095 * 2 ^ 52
minus_at_most x F n =
    let fit = T_from_true _ F in omega (arith, at_most_inf x fit n, to_bits-lt binary64 x fit)

-- the pattern of a number, and 0 for a NaN
pub bits_are : (x : Float) → is_nan x ≡ false → bits_of x ≡ to_bits binary64 x
unfolding is_nan
bits_are nan e = absurd (true≢false e)
bits_are (inf s) e = refl
bits_are (fin s m d) e = refl

pub bits_of_nan : (x : Float) → is_nan x ≡ true → bits_of x ≡ 0
unfolding is_nan
bits_of_nan nan e = refl
bits_of_nan (inf s) e = absurd (false≢true e)
bits_of_nan (fin s m d) e = absurd (false≢true e)

pub ruleset bits_laws = (bits_are, bits_of_nan)

-- a pattern above 0 is a number's
pub bits_of_number : (x : Float) → 1 ≤ bits_of x → to_bits binary64 x ≡ bits_of x
bits_of_number nan h = absurd (omega arith)
bits_of_number (inf s) h = refl
bits_of_number (fin s m e) h = refl
