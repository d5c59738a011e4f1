-- Squares of whole numbers, and what makes a number the nearest to a root. Assumes nothing.
use Rattle.std.proofs.Common.{◌≡◌, ℕ, ◌+◌, ◌-◌, ◌*◌, ◌^◌, ◌<◌, ◌≤◌, true, ◌&&◌, T, ltb, leb, ◌⊎◌, sym, refl, subst, inl, inr, add_assoc, mul-le-mul_right, mul_comm, add-mul, mul-le-mul, lt_of_not-le, mul-one, mul-add, not-le_of_lt, arith, ltb→lt, leb→le}
use native.Mathlib.Nat.{mul-mul-mul_comm}
use lib.Ieee.Fits.{and_l, and_r}
use native.Mathlib.Decide.{dec_le}
use Rattle.numeric.specs.Inner.Step.{Nearest, is_nearest, Significand}

pub le_or_lt : (a b : ℕ) → (a ≤ b) ⊎ (b < a)
le_or_lt a b =
    elim (dec_le a b) [
      | yes h ↦ inl h
      | no h ↦ inr (lt_of_not-le h)
    ]

-- ---- the square of a sum
pub square_sum : (a b : ℕ) → (a + b) * (a + b) ≡ a * a + (a * b + a * b) + b * b
square_sum a b = simp (mul-add, add-mul, mul_comm, add_assoc) refl

pub square_next : (g : ℕ) → (g + 1) * (g + 1) ≡ g * g + 2 * g + 1
square_next g = let e : g * 1 ≡ g = mul-one g in omega (arith, square_sum g 1)

pub odd_square : (q : ℕ) → (2 * q + 1) * (2 * q + 1) ≡ 4 * (q * q) + 4 * q + 1
odd_square q = omega (arith, square_next (2 * q), mul-mul-mul_comm 2 q 2 q)

-- ---- the nearest number to the root of m * 2 ^ 52 has 53 digits
pub near : (m s : ℕ) → Significand m → s * s < m * 2 ^ 52 + s → m * 2 ^ 52 ≤ s * s + s → Nearest m s
near m s sig above below = record {
  digits = record {
    least = lt_of_not-le {n = s} {m = 2 ^ 52 - 1} (λ h. let q : s * s ≤ (2 ^ 52 - 1) * s = mul-le-mul_right s h in omega arith);
    most = lt_of_not-le {n = 2 ^ 53} {m = s} (λ h. let q : 2 ^ 53 * s ≤ s * s = mul-le-mul_right s h in omega arith);
  };
  above = above;
  below = below;
}

-- the same from the test
pub near_of_test : (m s : ℕ) → Significand m → is_nearest m s ≡ true → Nearest m s
near_of_test m s sig h =
    let a = ltb (s * s) (m * 2 ^ 52 + s) in
    let b = leb (m * 2 ^ 52) (s * s + s) in
    let t : T (a && b) = subst T (sym h) tt in
    near m s sig (ltb→lt (s * s) (m * 2 ^ 52 + s) (and_l a b t)) (leb→le (m * 2 ^ 52) (s * s + s) (and_r a b t))

-- ---- the order of squares, and a square taken apart
pub lt_of_squares : {a b : ℕ} → a * a < b * b → a < b
lt_of_squares h = lt_of_not-le (λ g. not-le_of_lt h (mul-le-mul g g))

pub times_squared : (x p : ℕ) → x * p * (x * p) ≡ x * x * (p * p)
times_squared x p = mul-mul-mul_comm x p x p
