-- ±c / 10 ^ k rounded to a double is finite, and at most 2 ^ 96 in size: c / 10 ^ k lies between
-- 2 ^ -94 and 2 ^ 96, both are doubles, and rounding keeps the order. Assumes nothing.
use mathlib.Core.Path.{◌≡◌, refl, sym, ap}
use mathlib.Core.Bool.{Bool, false}
use Prim.Native.Nat.{ℕ, ◌*◌, ◌/◌, ◌^◌, ◌≤◌, ◌<◌}
use native.Mathlib.Nat.{le_trans, le_of_eq, le_of_lt, zero-lt-suc, mul-one, mul-le-mul, mul-le-mul_left, mul-le-mul_right, pow-le-pow_right}
use lib.Dec.{T, lit<, lit≤}
use lib.Pow.{pow_pos}
use lib.IntN.{ℤ}
use lib.Ieee.{Float, nan, inf, fin, binary64, up, down, size, round, le}
use lib.Ieee.Exact.{HasValue, round_exact}
use lib.Ieee.Order.{transfer, round_mono}
use lib.Ieee.Scale.{grid, overflow, round_val, round_under, normal_of_fraction}
use lib.Ieee.Positive.{positive, positive-finite, positive_of_value, values_of_le, between}
use Rattle.numeric.specs.Correct.{FractionIsNearest}
use Rattle.numeric.proofs.Fractions.{round_value, round_is_nearest}
use Rattle.decimal.proofs.Scaled.{ten_pos}

pub record Within (v : Float) (s : Bool) : Type 0 where
  pub m : ℕ
  pub e : ℤ
  pub is : v ≡ fin s m e
  pub most : m * up e ≤ 2 ^ 96 * down e

from_value : (v : Float) (s : Bool) (g : ℕ) → HasValue v s g (2 ^ 1074) → g * 1 ≤ 2 ^ 96 * 2 ^ 1074 → Within v s
from_value nan s g h hi = absurd h
from_value (inf t) s g h hi = absurd h
from_value (fin t m e) s g h hi = record {
  m = m;
  e = e;
  is = ap (λ (b : Bool). fin b m e) h.0;
  most = le_trans (le_of_eq (sym (mul-one (m * up e)))) (transfer (m * up e) (2 ^ 96) (down e) 1 g (2 ^ 96) (2 ^ 1074) 1 (pow_pos 1074) (pow_pos 0) h.1 refl hi);
}

module _ (c k : ℕ) (C : 0 < c) (W : c < 2 ^ 96) (K : k ≤ 28) where
  abbrev lo : Float
  lo = round binary64 false 1 (2 ^ 94)

  abbrev hi : Float
  hi = round binary64 false (2 ^ 96) 1

  abbrev x : Float
  x = round binary64 false c (10 ^ k)

  lo_value : HasValue lo false 1 (2 ^ 94)
  lo_value = round_exact binary64 false 1 (2 ^ 94) 1 980 (pow_pos 94) (lit< tt) (lit< tt) refl

  hi_value : HasValue hi false (2 ^ 96) 1
  hi_value = round_exact binary64 false (2 ^ 96) 1 1 1170 (pow_pos 0) (lit< tt) (lit< tt) refl

  from : T (le lo x)
  from =
      round_mono binary64 1 (2 ^ 94) c (10 ^ k) (pow_pos 94) (ten_pos k)
      (mul-le-mul C (le_trans (pow-le-pow_right (zero-lt-suc 9) K) (lit≤ tt)))

  to : T (le x hi)
  to = round_mono binary64 c (10 ^ k) (2 ^ 96) 1 (ten_pos k) (pow_pos 0) (mul-le-mul (le_of_lt W) (ten_pos k))

  lo_positive : T (positive lo)
  lo_positive = positive_of_value lo 1 (2 ^ 94) lo_value (zero-lt-suc 0)

  hi_positive : T (positive hi)
  hi_positive = positive_of_value hi (2 ^ 96) 1 hi_value (pow_pos 96)

  pub x_positive : T (positive x)
  x_positive = between lo x hi lo_positive hi_positive from to

  abbrev g : ℕ
  g = grid binary64 c (10 ^ k)

  under : g < overflow binary64
  under = round_under binary64 c (10 ^ k) (positive-finite x x_positive)

  x_value : HasValue x false g (2 ^ 1074)
  x_value = round_val binary64 c (10 ^ k) under

  pub within : (s : Bool) → Within (round binary64 s c (10 ^ k)) s
  within s =
      from_value (round binary64 s c (10 ^ k)) s g (round_value s c (10 ^ k) under)
      (values_of_le x hi g (2 ^ 1074) (2 ^ 96) 1 x_positive hi_positive x_value hi_value to)

  -- it has all its 53 digits, so it is the nearest double
  normal : 53 ≤ size (c * 2 ^ 1074 / 10 ^ k)
  normal =
      normal_of_fraction binary64 c (10 ^ k) (ten_pos k)
      (le_trans (mul-le-mul_left (2 ^ 52) (pow-le-pow_right (zero-lt-suc 9) K))
      (le_trans (lit≤ tt) (mul-le-mul_right (2 ^ 1074) C)))

  pub is_nearest_lem : (s : Bool) → FractionIsNearest s c (10 ^ k) (round binary64 s c (10 ^ k))
  is_nearest_lem s = round_is_nearest c (10 ^ k) (ten_pos k) normal under s
