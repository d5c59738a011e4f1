-- One more row of a column's sum, and one more column of the norm. Assumes nothing.
use mathlib.Core.Path.{◌≡◌}
use mathlib.Core.List.{List}
use Prim.Native.Nat.{ℕ, ◌+◌}
use native.Mathlib.Numerals.{add-one}
use lib.Ieee.{Float}
use Rattle.numeric.specs.Double.{plus, magnitude, larger}
use Rattle.matrix.specs.Matrix.{entry}
use Rattle.exponential.specs.Norm.{column_sum, largest_sum}

module _ (n : ℕ) (a : List Float) where
  pub sum_more :
      (j i : ℕ) (s x : Float) → s ≡ column_sum n a j i → x ≡ magnitude (entry n a i j)
      → plus s x ≡ column_sum n a j (i + 1)
  unfolding column_sum
  sum_more j i s x e h = rw (add-one, e, h)

  pub largest_more :
      (j : ℕ) (s x y : Float) → s ≡ largest_sum n a j → x ≡ column_sum n a j n → y ≡ larger s x
      → y ≡ largest_sum n a (j + 1)
  unfolding largest_sum
  largest_more j s x y e h m = rw (add-one, m, e, h)
