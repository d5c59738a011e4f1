-- Doubles are the values of IEEE 754's binary64, as `lib.Ieee` defines them. Short names for their
-- operations, rounded once each, for their constants, and for Rust's `is_finite`, `abs`, `max` and
-- `min`. Definitions only.
use Rattle.std.specs.Prelude.{true, false, cond, pos, Float}
use Rattle.std.specs.Float.{nan, inf, fin, binary64}
use Rattle.std.specs.Float.Ieee.{add, sub, mul, div, lt}
-- Rule 2.2: finite, which is neither a NaN nor an infinity
pub use Rattle.std.specs.Float.Ieee.Scale.{finite}

-- ---- the operations

-- Rule 2.1: x + y
abbrev pub plus : Float → Float → Float
plus x y = add binary64 x y

-- Rule 2.1: x - y
abbrev pub minus : Float → Float → Float
minus x y = sub binary64 x y

-- Rule 2.1: x × y
abbrev pub times : Float → Float → Float
times x y = mul binary64 x y

-- Rule 2.1: x / y
abbrev pub over : Float → Float → Float
over x y = div binary64 x y

-- ---- constants and parts

-- Rule 2.2: 1.0
abbrev pub one : Float
one = fin false 1 (pos 0)

-- Rule 2.2: 2.0
abbrev pub two : Float
two = fin false 1 (pos 1)

-- Rule 2.2: +0.0
abbrev pub plus_zero : Float
plus_zero = fin false 0 (pos 0)

-- Rule 2.2: -0.0
abbrev pub minus_zero : Float
minus_zero = fin true 0 (pos 0)

-- Rule 2.2: |x|, the same size without the sign; a NaN stays a NaN
abbrev pub magnitude : Float → Float
magnitude nan = nan
magnitude (inf s) = inf false
magnitude (fin s m e) = fin false m e

-- Rule 2.3: the positive part: v where it is above zero, and elsewhere +0.0, so that -0.0 and a NaN
-- give +0.0
unfoldable pub positive_part : Float → Float
unfolding lt
positive_part v = cond (lt plus_zero v) v plus_zero

-- Rule 12.2: the larger of a running maximum x and the next number y: y where it is above x, and
-- elsewhere x. A NaN is above nothing, so that it is passed over.
unfoldable pub larger : Float → Float → Float
unfolding lt
larger x y = cond (lt x y) y x

-- Rule 7.7: the smaller of a running minimum x and the next number y: y where it is below x, and
-- elsewhere x. A NaN is below nothing, so that it is passed over.
unfoldable pub smaller : Float → Float → Float
unfolding lt
smaller x y = cond (lt y x) y x
