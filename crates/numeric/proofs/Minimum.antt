-- The smaller of two finite doubles is one of them, and at most each. Assumes nothing.
use Rattle.std.proofs.Common.{◌≡◌, Bool, true, false, cond, ◌||◌, ◌⊎◌, refl, ap, ◌∙◌, inl, inr, ⊎_elim}
use Rattle.std.proofs.lemmas.Float.{T_from_true, T_from_false, le_of_lt, le_of_not-lt, le_refl as float_le_refl}
use lib.Ieee.Bits.{is_true}
use lib.Ieee.{Float, lt, le}
use Rattle.numeric.specs.Double.{smaller, finite}
use Rattle.numeric.proofs.Finite.{no_nan_of_finite}
use Rattle.numeric.proofs.Order.{le_through}

-- ---- of two finite doubles one is at most the other

pub le_refl : (x : Float) → finite x ≡ true → le x x ≡ true
le_refl x h = is_true (le x x) (float_le_refl x (no_nan_of_finite x h))

or_first : (a b : Bool) → (b ≡ true → a ≡ true) → a ≡ (a || b)
or_first true b h = refl
or_first false true h = h refl
or_first false false h = refl

or_second : (a b : Bool) → (a ≡ true → b ≡ true) → b ≡ (a || b)
or_second true b h = h refl
or_second false b h = refl

-- ---- the smaller of two

module _ (x y : Float) (fx : finite x ≡ true) (fy : finite y ≡ true) where
  -- one of them, and at most the other
  by_test : (b : Bool) → lt y x ≡ b
      → ((smaller x y ≡ x) × (le x y ≡ true)) ⊎ ((smaller x y ≡ y) × (le y x ≡ true))
  unfolding smaller
  by_test true h = inr (ap (λ (b : Bool). cond b y x) h, is_true _ (le_of_lt y x (T_from_true _ h)))
  by_test false h =
      inl (ap (λ (b : Bool). cond b y x) h, is_true _ (le_of_not-lt y x (no_nan_of_finite y fy) (no_nan_of_finite x fx) (T_from_false _ h)))

  pub smaller_is : ((smaller x y ≡ x) × (le x y ≡ true)) ⊎ ((smaller x y ≡ y) × (le y x ≡ true))
  smaller_is = by_test (lt y x) refl

  pub smaller_finite : finite (smaller x y) ≡ true
  smaller_finite = ⊎_elim (λ h. ap finite h.0 ∙ fx) (λ h. ap finite h.0 ∙ fy) smaller_is

  -- so it is at or below a bound exactly where one of them is
  pub smaller_below : (z : Float) → le (smaller x y) z ≡ (le x z || le y z)
  smaller_below z =
      ⊎_elim (λ h. ap (λ (v : Float). le v z) h.0 ∙ or_first (le x z) (le y z) (le_through x y z h.1))
      (λ h. ap (λ (v : Float). le v z) h.0 ∙ or_second (le x z) (le y z) (le_through y x z h.1)) smaller_is
