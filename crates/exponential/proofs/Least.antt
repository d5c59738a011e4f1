-- The law of `squarings`: it is the least whole number s with norm ≤ 2^s / 2, for every double of
-- which twice the size is finite. Assumes nothing.
use mathlib.Core.Path.{◌≡◌, refl, sym, ap, ◌∙◌, subst, subst₂}
use mathlib.Core.Bool.{Bool, true, false, ◌&&◌, ◌||◌, true≢false}
use Prim.Native.Nat.{ℕ, zero, suc, ◌+◌, ◌*◌, ◌%◌, ◌^◌, ◌≤◌, ◌<◌, zero-le}
use native.Mathlib.Nat.{add-zero, add-suc, suc-add, zero-mul, mul-pos, one-mul, mul-one}
use native.Mathlib.Decide.{ℕ_discrete}
use native.Mathlib.Omega.{arith}
use lib.Dec.{T, ltb, leb, eqb, ltb→lt, lt→ltb, lit<}
use lib.Ieee.{Float, nan, inf, fin, binary64, up, down, fits, add, lt, eq, le}
use lib.Ieee.Fits.{and_r, down_pos}
use Rattle.numeric.specs.Double.{finite, plus}
use Rattle.exponential.specs.Exponential.{half_two_to, first_enough, squarings, IsLeast}

-- a search that begins at or below the least number finds it
least_from :
    (norm : Float) (many at : ℕ) → ((t : ℕ) → T (le norm (half_two_to t)) → at ≤ t)
    → T (le norm (half_two_to (at + many))) → IsLeast norm (first_enough many at norm)
unfolding first_enough
least_from norm zero at below enough =
    record {
      enough = subst (λ (k : ℕ). T (le norm (half_two_to k))) (add-zero at) enough;
      least = below;
    }
least_from norm (suc many) at below enough =
    go (le norm (half_two_to at)) refl
    (λ above.
    least_from norm many (suc at) above
    (subst (λ (k : ℕ). T (le norm (half_two_to k))) (add-suc at many ∙ sym (suc-add at many))
    enough))
  where
    go :
        (b : Bool) → le norm (half_two_to at) ≡ b
        → (((t : ℕ) → T (le norm (half_two_to t)) → suc at ≤ t)
        → IsLeast norm (first_enough many (suc at) norm))
        → IsLeast norm (elim b as (λ b. ℕ) [ true ↦ at | false ↦ first_enough many (suc at) norm ])
    go true e ih = record { enough = subst T (sym e) tt; least = below }
    go false e ih = ih above
      where
        above : (t : ℕ) → T (le norm (half_two_to t)) → suc at ≤ t
        above t h = pick (ℕ_discrete at t)
          where
            pick : Dec (at ≡ t) → suc at ≤ t
            pick (yes q) = absurd (subst T (ap (λ (k : ℕ). le norm (half_two_to k)) (sym q) ∙ e) h)
            pick (no d) = omega (arith, below t h)

or_left : (a b : Bool) → T a → T (a || b)
or_left true b h = tt
or_left false b h = absurd h

-- a finite double is below 2 ^ 1024
most : (x : Float) → T (fits binary64 x) → T (finite x) → T (lt x (half_two_to 1025))
unfolding lt fits
most nan f h = absurd h
most (inf s) f h = absurd h
most (fin true m e) f h =
    lt→ltb 0 (m * up e * 1 + 1 * 2 ^ 1024 * down e)
    (positive (m * up e * 1) (1 * 2 ^ 1024 * down e) (mul-pos (lit< tt) (down_pos e)))
  where
    positive : (x y : ℕ) → 0 < y → 0 < x + y
    positive x y h = omega arith
most (fin false zero e) f h =
    lt→ltb (0 * up e * 1) (1 * 2 ^ 1024 * down e)
    (subst (λ (x : ℕ). x < 1 * 2 ^ 1024 * down e) (sym (ap (λ (x : ℕ). x * 1) (zero-mul (up e))))
    (mul-pos (lit< tt) (down_pos e)))
most (fin false (suc m) e) f h =
    lt→ltb (suc m * up e * 1) (1 * 2 ^ 1024 * down e)
    (subst₂ (λ (x y : ℕ). x < y * down e) (sym (mul-one (suc m * up e))) (sym (one-mul (2 ^ 1024)))
    (ltb→lt (suc m * up e) (2 ^ 1024 * down e)
    (and_r (eqb (suc m % 2) 1 && ltb (suc m) (2 ^ 53) && leb (down e) (2 ^ 1074))
    (ltb (suc m * up e) (2 ^ 1024 * down e)) f)))

-- and so is a norm of which twice the size is finite
norm_finite : (x : Float) → finite (plus x x) ≡ true → T (finite x)
unfolding add
norm_finite nan e = absurd (true≢false (sym e))
norm_finite (inf true) e = absurd (true≢false (sym e))
norm_finite (inf false) e = absurd (true≢false (sym e))
norm_finite (fin s m d) e = tt

pub squarings_least :
    (norm : Float) → T (fits binary64 norm) → finite (plus norm norm) ≡ true
    → IsLeast norm (squarings norm)
unfolding squarings le
squarings_least norm f h =
    least_from norm 1025 0 (λ t e. zero-le)
    (or_left (lt norm (half_two_to 1025)) (eq norm (half_two_to 1025))
    (most norm f (norm_finite norm h)))
