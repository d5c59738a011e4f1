-- The 1-norm of a square matrix. Definitions only.
use Rattle.std.specs.Prelude.{ℕ, zero, suc, List, Float}
use Rattle.std.specs.Float.Ieee.{add}
use Rattle.numeric.specs.Double.{plus, plus_zero, magnitude, larger}
use Rattle.matrix.specs.Matrix.{entry}

-- Rule 12.2: the absolute values of the first m entries of column j, added in the rows' order,
-- begun at +0.0
unfoldable pub column_sum : ℕ → List Float → ℕ → ℕ → Float
unfolding add
column_sum n a j zero = plus_zero
column_sum n a j (suc i) = plus (column_sum n a j i) (magnitude (entry n a i j))

-- Rule 12.2: the largest of the first m columns' sums, not below +0.0; a sum that is a NaN is
-- passed over
unfoldable pub largest_sum : ℕ → List Float → ℕ → Float
unfolding column_sum larger
largest_sum n a zero = plus_zero
largest_sum n a (suc j) = larger (largest_sum n a j) (column_sum n a j n)

-- Rule 12.2: the norm
unfoldable pub norm1 : ℕ → List Float → Float
unfolding largest_sum
norm1 n a = largest_sum n a n
