-- A Decimal: its exact value, its comparison with zero, whether its scale fits, and the double that
-- it converts to. `round` is lib.Ieee's account of IEEE 754: the value of the format that is
-- nearest to a fraction, at a tie the one with the even significand. Definitions only.
use Rattle.std.specs.Prelude.{◌≡◌, Bool, true, false, cond, ◌||◌, ℕ, ◌+◌, ◌*◌, ◌^◌, eqb, leb}
use Rattle.std.specs.Prelude.{ℤ, pos, neg_ℤ, Float, Option, Some, None}
use Rattle.std.specs.Int.Signed.{lt_z}
use Rattle.std.specs.Float.{binary64}
use Rattle.std.specs.Float.Ieee.{round}
use Rattle.numeric.specs.Correct.{FractionIsNearest}
use Rattle.numeric.specs.Double.{plus_zero}
use Rattle.decimal.specs.declared.Decimal.{Decimal}

-- Rule 3.1: the coefficient, of 96 bits
abbrev pub coefficient : Decimal → ℕ
coefficient d = d.high * 2 ^ 64 + d.low

-- Rule 3.1: the coefficient with its sign; the Decimal is numerator d / 10 ^ d.scale
abbrev pub numerator : Decimal → ℤ
numerator d = cond d.negative (neg_ℤ (pos (coefficient d))) (pos (coefficient d))

-- Rule 3.2: zero, of either sign
unfoldable pub is_zero : Decimal → Bool
is_zero d = eqb (coefficient d) 0

-- Rule 3.2: below zero by its value: a fraction compares with zero as its numerator does
unfoldable pub is_negative : Decimal → Bool
is_negative d = lt_z (numerator d) (pos 0)

-- Rule 3.2: above zero by its value
unfoldable pub is_positive : Decimal → Bool
is_positive d = lt_z (pos 0) (numerator d)

-- Rule 3.3: a Decimal fits if it is zero or its scale is at most 28
unfoldable pub scale_fits : Decimal → Bool
unfolding is_zero
scale_fits d = is_zero d || leb d.scale 28

-- Rule 3.4: the double nearest to coefficient / 10 ^ scale, with the sign, ties to the even
-- significand
abbrev pub nearest_double : Decimal → Float
nearest_double d = round binary64 d.negative (coefficient d) (10 ^ d.scale)

-- Rule 3.4: zero of either sign and any scale is +0.0. A Decimal that does not fit has no double:
-- +0.0 stands for it here, and no call answers with it.
unfoldable pub value : Decimal → Float
unfolding is_zero round
value d = cond (is_zero d) plus_zero (cond (leb d.scale 28) (nearest_double d) plus_zero)

-- Rule 3.5: conversion answers that double, or none where the Decimal does not fit: refusal 1
unfoldable pub convert : Decimal → Option Float
unfolding scale_fits value
convert d = cond (scale_fits d) (Some (value d)) None

-- ---- the law of the conversion, said without its steps

-- Rule 18.12: v is the double nearest to the Decimal, at a tie the one with the even significand,
-- for every Decimal that fits and is not zero
unfoldable pub ConvertsToNearest : Decimal → Float → Type 0
ConvertsToNearest d v =
    is_zero d ≡ false → scale_fits d ≡ true
    → FractionIsNearest d.negative (coefficient d) (10 ^ d.scale) v
