-- What a finite result says of its operands, and the sign of a float. Assumes nothing.
use Rattle.std.proofs.Common.{◌≡◌, Bool, true, false, cond, not, T, eqb, sym, refl, ap, ◌∙◌}
use mathlib.Core.Bool.{beq, false≢true}
use lib.Ieee.{Float, nan, inf, fin, is_nan, unlike, neg, add, sub, mul}
use Rattle.numeric.specs.Double.{plus, minus, times, finite}

-- ---- tests

pub never : {b : Bool} {P : Type 0} → b ≡ false → b ≡ true → P
never p q = absurd (false≢true (sym p ∙ q))

-- ---- a finite double is a number

pub no_nan_of_finite : (x : Float) → finite x ≡ true → T (not (is_nan x))
unfolding is_nan
no_nan_of_finite nan h = never refl h
no_nan_of_finite (inf s) h = tt
no_nan_of_finite (fin s m e) h = tt

-- ---- the sign, set at -0 too; a NaN counts as having none

abbrev pub sign : Float → Bool
sign nan = false
sign (inf s) = s
sign (fin s m e) = s

neither : (b : Bool) (x y : Float) → finite x ≡ false → finite y ≡ false → finite (cond b x y) ≡ false
neither true x y p q = p
neither false x y p q = q

-- ---- a finite sum, difference or product has finite operands

pub plus_finite : (x y : Float) → finite (plus x y) ≡ true → (finite x ≡ true) × (finite y ≡ true)
unfolding add
plus_finite nan y h = never refl h
plus_finite (inf s) nan h = never refl h
plus_finite (inf s) (inf t) h = never (neither (beq s t) (inf s) nan refl refl) h
plus_finite (inf s) (fin t n d) h = never refl h
plus_finite (fin s m e) nan h = never refl h
plus_finite (fin s m e) (inf t) h = never refl h
plus_finite (fin s m e) (fin t n d) h = (refl, refl)

pub neg_finite : (x : Float) → finite (neg x) ≡ finite x
unfolding neg
neg_finite nan = refl
neg_finite (inf s) = refl
neg_finite (fin s m e) = refl

minus_is : (x y : Float) → minus x y ≡ plus x (neg y)
unfolding sub
minus_is x y = refl

pub minus_finite : (x y : Float) → finite (minus x y) ≡ true → (finite x ≡ true) × (finite y ≡ true)
minus_finite x y h = let r = plus_finite x (neg y) (sym (ap finite (minus_is x y)) ∙ h) in (r.0, sym (neg_finite y) ∙ r.1)

pub times_finite : (x y : Float) → finite (times x y) ≡ true → (finite x ≡ true) × (finite y ≡ true)
unfolding mul
times_finite nan y h = never refl h
times_finite (inf s) nan h = never refl h
times_finite (inf s) (inf t) h = never refl h
times_finite (inf s) (fin t n d) h = never (neither (eqb n 0) nan (inf (unlike s t)) refl refl) h
times_finite (fin s m e) nan h = never refl h
times_finite (fin s m e) (inf t) h = never (neither (eqb m 0) nan (inf (unlike s t)) refl refl) h
times_finite (fin s m e) (fin t n d) h = (refl, refl)
