-- The double of a Decimal, for the proofs of callers: which case it is, that it is finite, and its
-- sign and size. Assumes nothing.
use mathlib.Core.Path.{◌≡◌, refl, sym, ap, ap₂, ◌∙◌, subst}
use mathlib.Core.Bool.{Bool, true, false, not, ◌&&◌, ◌||◌, cond, and-true, and-false, and-eq-true_iff}
use Prim.Native.Nat.{ℕ, ◌*◌, ◌^◌, ◌≤◌, ◌<◌, zero-le}
use lib.Dec.{T, leb}
use lib.IntN.{ℤ, pos}
use lib.Ieee.{Float, fin, binary64, up, down, fits, round, le}
use lib.Ieee.Fits.{round-fits, cond-fits}
use borrow.Author.Tests.{not-true, leb-true, le-leb, lt-leb}
use Rattle.decimal.specs.declared.Decimal.{Decimal}
use Rattle.std.specs.Prelude.{Some, None}
use Rattle.decimal.specs.Decimal.{coefficient, is_zero, is_negative, is_positive, scale_fits, nearest_double, value, convert, ConvertsToNearest}
use Rattle.numeric.specs.Correct.{FractionIsNearest}
use Rattle.numeric.specs.Double.{plus_zero}
use Rattle.std.proofs.Common.{arith}
use Rattle.numeric.proofs.Above.{positive_above}
use Rattle.numeric.proofs.Doubles.{zero_is}
use Rattle.decimal.proofs.Zero.{nonzero, negative_is, positive_is}
use Rattle.decimal.proofs.Bounds.{x_positive, within, is_nearest_lem}

-- ---- the cases of `value`
by_tests : (d : Decimal) (z f : Bool) → is_zero d ≡ z → leb d.scale 28 ≡ f → value d ≡ cond z plus_zero (cond f (nearest_double d) plus_zero)
unfolding value
by_tests d z f e h = ap₂ (λ (a b : Bool). cond a plus_zero (cond b (nearest_double d) plus_zero)) e h

pub zero_value : (d : Decimal) → is_zero d ≡ true → value d ≡ plus_zero
zero_value d e = by_tests d true (leb d.scale 28) e refl

pub nearest_value : (d : Decimal) → is_zero d ≡ false → d.scale ≤ 28 → value d ≡ nearest_double d
nearest_value d e h = by_tests d false true e (le-leb d.scale 28 h)

pub refused_value_lem : (d : Decimal) → is_zero d ≡ false → 28 < d.scale → value d ≡ plus_zero
refused_value_lem d e h = by_tests d false false e (lt-leb d.scale 28 h)

-- ---- the cases of `convert`
pub converted_value : (d : Decimal) → scale_fits d ≡ true → convert d ≡ Some (value d)
unfolding convert
converted_value d e = ap (λ (b : Bool). cond b (Some (value d)) None) e

pub converted_refused : (d : Decimal) → scale_fits d ≡ false → convert d ≡ None
unfolding convert
converted_refused d e = ap (λ (b : Bool). cond b (Some (value d)) None) e

-- ---- finite, of the Decimal's sign, and at most 2 ^ 96 in size
pub record Converts (d : Decimal) : Type 0 where
  pub m : ℕ
  pub e : ℤ
  pub is : value d ≡ fin (is_negative d && scale_fits d) m e
  pub most : m * up e ≤ 2 ^ 96 * down e

fits_is : (d : Decimal) (z f : Bool) → is_zero d ≡ z → leb d.scale 28 ≡ f → scale_fits d ≡ z || f
unfolding scale_fits
fits_is d z f e h = ap₂ (λ (a b : Bool). a || b) e h

sign_is : (d : Decimal) (z f : Bool) → is_zero d ≡ z → leb d.scale 28 ≡ f → is_negative d && scale_fits d ≡ (d.negative && not z) && (z || f)
sign_is d z f e h = ap₂ (λ (a b : Bool). a && b) (negative_is d ∙ ap (λ (a : Bool). d.negative && not a) e) (fits_is d z f e h)

plus_zero_lem : (d : Decimal) → value d ≡ plus_zero → is_negative d && scale_fits d ≡ false → Converts d
plus_zero_lem d v s = record {
  m = 0;
  e = pos 0;
  is = v ∙ ap (λ (b : Bool). fin b 0 (pos 0)) (sym s);
  most = zero-le;
}

module _ (d : Decimal) (W : coefficient d < 2 ^ 96) where
  by_cases : (z f : Bool) → is_zero d ≡ z → leb d.scale 28 ≡ f → Converts d
  by_cases true f e h =
      plus_zero_lem d (zero_value d e) (sign_is d true f e h ∙ ap (λ (b : Bool). b && true) (and-false d.negative))
  by_cases false false e h =
      plus_zero_lem d (by_tests d false false e h) (sign_is d false false e h ∙ and-false (d.negative && true))
  by_cases false true e h =
      let w = within (coefficient d) d.scale (nonzero d e) W (leb-true d.scale 28 h) d.negative in
      record {
        m = w.m;
        e = w.e;
        is = by_tests d false true e h ∙ w.is ∙ ap (λ (b : Bool). fin b w.m w.e) (sym (sign_is d false true e h ∙ and-true (d.negative && true) ∙ and-true d.negative));
        most = w.most;
      }

  pub converts : Converts d
  converts = by_cases (is_zero d) (leb d.scale 28) refl refl

  -- ---- the nearest double
  pub converts_to_nearest : ConvertsToNearest d (value d)
  unfolding ConvertsToNearest
  converts_to_nearest z f =
      let K = leb-true d.scale 28 (sym (fits_is d false (leb d.scale 28) z refl) ∙ f) in
      subst (FractionIsNearest d.negative (coefficient d) (10 ^ d.scale)) (sym (nearest_value d z K))
      (is_nearest_lem (coefficient d) d.scale (nonzero d z) W K d.negative)

  -- ---- a positive Decimal converts to a double above zero
  pub positive_value : is_positive d ≡ true → scale_fits d ≡ true → le (value d) plus_zero ≡ false
  positive_value p f =
      let signs = (and-eq-true_iff (not d.negative) (not (is_zero d))).0 (sym (positive_is d) ∙ p) in
      let plain : d.negative ≡ false = not-true d.negative signs.0 in
      let some : is_zero d ≡ false = not-true (is_zero d) signs.1 in
      let K = leb-true d.scale 28 (sym (fits_is d false (leb d.scale 28) some refl) ∙ f) in
      ap (λ (v : Float). le v plus_zero) (nearest_value d some K ∙ ap (λ (s : Bool). round binary64 s (coefficient d) (10 ^ d.scale)) plain)
      ∙ positive_above _ (x_positive (coefficient d) d.scale (nonzero d some) W K)

pub value_fits : (d : Decimal) → T (fits binary64 (value d))
unfolding value
value_fits d =
    cond-fits binary64 (is_zero d) plus_zero (cond (leb d.scale 28) (nearest_double d) plus_zero) zero
    (cond-fits binary64 (leb d.scale 28) (nearest_double d) plus_zero (round-fits binary64 d.negative (coefficient d) (10 ^ d.scale)) zero)
  where
    zero : T (fits binary64 plus_zero)
    zero = unfold fits in tt

-- the law of the conversion, of what equals the value
pub value_is_nearest : (d : Decimal) (v : Float) → d.high < 2 ^ 32 → d.low < 2 ^ 64 → v ≡ value d → ConvertsToNearest d v
value_is_nearest d v high low e = subst (ConvertsToNearest d) (sym e) (converts_to_nearest d (omega arith))

-- ---- what the methods are proved by

pub ruleset value_laws = (zero_is, zero_value, nearest_value, refused_value_lem, nonzero)

pub ruleset conversion_laws = (converted_value, converted_refused, value_is_nearest)
