-- Rows of a table of `count` columns, one after another. Assumes nothing.
use mathlib.Core.Path.{◌≡◌}
use Prim.Native.Nat.{ℕ, ◌+◌, ◌*◌, ◌≤◌, ◌<◌}
use native.Mathlib.Nat.{mul-le-mul_right}
use native.Mathlib.Omega.{arith}

-- the next row ends within the table
pub row_inside : {path paths : ℕ} (count : ℕ) {long : ℕ} → path < paths → long ≡ paths * count
    → (path + 1) * count ≤ long
row_inside {path} {paths} count here whole =
    omega (arith, mul-le-mul_right {m = path + 1} {n = paths} count (omega arith))
