-- The square root of IEEE 754: the value of the format that is nearest to the exact root, a tie to
-- the even one; for a double there is never a tie (`Correct`). Over the values of `lib.Ieee`, in
-- the style of its `round`. Definitions only.
use Rattle.std.specs.Prelude.{ℕ, zero, suc, ◌+◌, ◌-◌, ◌*◌, ◌/◌, ◌^◌, nat_le}
use Rattle.std.specs.Prelude.{true, false, cond, Float}
use Prim.Native.Nat.{compare}
use Rattle.std.specs.Float.{nan, inf, fin, Format}
use Rattle.std.specs.Float.Ieee.{prec, low, up, down, size, nearest, units}

-- Rule 4.2: with r the whole part of the root of v / 4, that of v is 2 * r or the next number: the
-- larger one whose square is not above v
unfoldable pub digit : ℕ → ℕ → ℕ
digit v r = cond (nat_le ((2 * r + 1) * (2 * r + 1)) v) (2 * r + 1) (2 * r)

-- Rule 4.2: the whole part of the root of a v below 4 ^ d, one binary digit for each two of v's
unfoldable pub root_in : ℕ → ℕ → ℕ
unfolding digit
root_in zero v = 0
root_in (suc d) v = digit v (root_in d (v / 4))

-- Rule 4.2: the whole part of the root of v, which is the w with w * w ≤ v < (w + 1) * (w + 1)
-- (`proofs/Whole.antt`). v is below 2 ^ size v, and so below 4 ^ size v.
unfoldable pub isqrt : ℕ → ℕ
unfolding root_in size
isqrt v = root_in (size v) v

-- Rule 4.2: the root of a number above zero, counted in units of f's smallest value. v is the
-- number times the square of 2 ^ low f, so the root is √v units. Of its whole part w the format
-- keeps the `prec` leading digits, q, and drops k. The result is q * 2 ^ k or (q + 1) * 2 ^ k
-- units: the nearer one, by how the root compares with what lies half way,
-- (2 * q + 1) * 2 ^ k / 2. Both are doubled and squared.
unfoldable pub root_units : Format → ℕ → Float
unfolding isqrt size units
root_units f v =
    let w = isqrt v in
    let k = size w - prec f in
    let q = w / 2 ^ k in
    let half = (2 * q + 1) * 2 ^ k in
    units f false (nearest q (compare (4 * v) (half * half))) k

-- Rule 4.1: a NaN and a number below zero have no root, and a zero keeps its sign. Any other number
-- is m * up e / down e, and in a value that f holds down e divides 2 ^ low f: the v below is exact.
unfoldable pub root : Format → Float → Float
unfolding root_units
root f nan = nan
root f (inf false) = inf false
root f (inf true) = nan
root f (fin s zero e) = fin s zero e
root f (fin true (suc m) e) = nan
root f (fin false (suc m) e) = root_units f (suc m * up e * 2 ^ (2 * low f) / down e)
