-- `isqrt v` is the whole part of the square root of v. Assumes nothing.
use Rattle.std.proofs.Common.{◌≡◌, ℕ, zero, suc, ◌+◌, ◌*◌, ◌/◌, ◌^◌, ◌<◌, ◌≤◌, Bool, true, false, cond, not, T, leb, subst, zero-le, le_trans, lt_of_lt_of_le, div-lt_iff_lt-mul, add-mul, mul-le-mul, pow-suc, div-mul-le_self, arith, lit<, lit≤, leb→le, pow_pos}
use native.Mathlib.Nat.{pow-le-pow_left, lt-div-mul-add, mul-mul-mul_comm}
use lib.Dec.{nleb→lt}
use lib.Ieee.{size}
use lib.Ieee.Digits.{size-lt}
use Rattle.numeric.specs.Root.{digit, root_in, isqrt}
use Rattle.numeric.proofs.Numbers.{square_next}

pub record Whole (v w : ℕ) : Type 0 where
  pub below : w * w ≤ v
  pub above : v < (w + 1) * (w + 1)

-- ---- one digit more

twice_squared : (r : ℕ) → 2 * r * (2 * r) ≡ 4 * (r * r)
twice_squared r = mul-mul-mul_comm 2 r 2 r

digit_is : (v r : ℕ) → Whole (v / 4) r → Whole v (digit v r)
unfolding digit
digit_is v r h = go (leb ((2 * r + 1) * (2 * r + 1)) v) (leb→le ((2 * r + 1) * (2 * r + 1)) v) (nleb→lt ((2 * r + 1) * (2 * r + 1)) v)
  where
    go : (b : Bool) → (T b → (2 * r + 1) * (2 * r + 1) ≤ v) → (T (not b) → v < (2 * r + 1) * (2 * r + 1)) → Whole v (cond b (2 * r + 1) (2 * r))
    go true y n =
        let l : (2 * r + 1) * (2 * r + 1) ≤ v = y tt in
        let a : v / 4 < (r + 1) * (r + 1) = h.above in
        record { below = l; above = omega (arith, square_next (2 * r + 1), square_next (2 * r), square_next r, twice_squared r) }
    go false y n =
        let l : v < (2 * r + 1) * (2 * r + 1) = n tt in
        let b : r * r ≤ v / 4 = h.below in
        record { below = omega (arith, twice_squared r); above = l }

-- ---- all of them

root_in_is : (d v : ℕ) → v < 4 ^ d → Whole v (root_in d v)
unfolding root_in
root_in_is zero v h = record { below = zero-le; above = h }
root_in_is (suc d) v h = digit_is v (root_in d (v / 4)) (root_in_is d (v / 4) ((div-lt_iff_lt-mul (lit< tt)).1 (subst (λ (x : ℕ). v < x) (pow-suc 4 d) h)))

pub isqrt_is : (v : ℕ) → Whole v (isqrt v)
unfolding isqrt
isqrt_is v = root_in_is (size v) v (lt_of_lt_of_le (size-lt v) (pow-le-pow_left (lit≤ tt) (size v)))

-- ---- with k digits cut off: q is the whole part of the root, in multiples of 2 ^ k

pub cut_below : (v w k : ℕ) → Whole v w → w / 2 ^ k * 2 ^ k * (w / 2 ^ k * 2 ^ k) ≤ v
cut_below v w k is = let h : w / 2 ^ k * 2 ^ k ≤ w = div-mul-le_self w (2 ^ k) in le_trans (mul-le-mul h h) is.below

pub cut_above : (v w k : ℕ) → Whole v w → v < (w / 2 ^ k + 1) * 2 ^ k * ((w / 2 ^ k + 1) * 2 ^ k)
cut_above v w k is =
    let q = w / 2 ^ k in
    let g : w < q * 2 ^ k + 2 ^ k = lt-div-mul-add (pow_pos k) in
    let e : (q + 1) * 2 ^ k ≡ q * 2 ^ k + 1 * 2 ^ k = add-mul q 1 (2 ^ k) in
    let h : w + 1 ≤ (q + 1) * 2 ^ k = omega arith in
    lt_of_lt_of_le is.above (mul-le-mul h h)
