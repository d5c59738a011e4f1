-- How many factors the points of a trace have. Assumes nothing.
use Prim.Native.Nat.{ℕ, ◌*◌, ◌≤◌}
use native.Mathlib.Nat.{le_trans, mul-le-mul_left, mul-le-mul_right}

pub factors_fit : (points n : ℕ) → points ≤ 4097 → n ≤ 10 → points * n ≤ 40970
factors_fit points n p q = le_trans (mul-le-mul_left points q) (mul-le-mul_right 10 p)
