-- The code's literals as values, and what its tests of doubles say. Assumes nothing.
use Rattle.std.proofs.Common.{◌≡◌, true, false, cond, sym, refl, true≢false}
use lib.Ieee.{Float, nan, inf, fin, binary64, neg, lt, of_bits}
use Rattle.std.specs.Float.{float_with_sign}
use Rattle.numeric.specs.Double.{plus_zero, minus_zero, magnitude, finite, positive_part}

-- ---- literals

pub zero_is : of_bits binary64 0 ≡ plus_zero
unfolding of_bits
zero_is = refl

pub positive_part_is : (v : Float) → positive_part v ≡ cond (lt (of_bits binary64 0) v) v (of_bits binary64 0)
unfolding positive_part of_bits
positive_part_is v = refl

pub minus_zero_is : neg (of_bits binary64 0) ≡ minus_zero
unfolding of_bits neg
minus_zero_is = refl

-- ---- finite: between the infinities, which are these patterns

pub above_finite : (x : Float) → lt (of_bits binary64 0xfff0_0000_0000_0000) x ≡ true
    → lt x (of_bits binary64 0x7ff0_0000_0000_0000) ≡ finite x
unfolding lt of_bits
above_finite nan h = refl
above_finite (inf true) h = absurd (true≢false (sym h))
above_finite (inf false) h = refl
above_finite (fin s m e) h = refl

pub below_finite : (x : Float) → lt (of_bits binary64 0xfff0_0000_0000_0000) x ≡ false → false ≡ finite x
unfolding lt of_bits
below_finite nan h = refl
below_finite (inf s) h = refl
below_finite (fin s m e) h = absurd (true≢false h)

pub ruleset finite_laws = (above_finite, below_finite)

-- ---- the library's size of a number is ours

pub magnitude_is : (x : Float) → magnitude x ≡ float_with_sign false x
unfolding float_with_sign
magnitude_is nan = refl
magnitude_is (inf s) = refl
magnitude_is (fin s m e) = refl
