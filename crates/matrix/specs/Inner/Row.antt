-- What the functions over a row of a product promise each other. Definitions only.
use Rattle.std.specs.Prelude.{ℕ, ◌+◌, ◌≤◌, ◌<◌, ◌≡◌, List, length, get_or, Float}
use Rattle.std.specs.Float.{nan}
use Rattle.matrix.specs.Matrix.{term_sum}
use Rattle.matrix.specs.declared.product.Factors.{Factors}

-- the sums of so many columns of the row, from column `from` on, after k of their terms
pub record ColumnSums (f : Factors) (from width : ℕ) (sums : List Float) (k : ℕ) : Type 0 where
  pub len : length sums ≡ width
  pub sum : (l : ℕ) → l < width
      → get_or sums l nan ≡ term_sum f.dim f.left.now f.right.now 0 (from + l) k

-- the row with its columns before j filled
pub record Filled (f : Factors) (row : List Float) (j : ℕ) : Type 0 where
  pub len : length row ≡ f.dim
  pub within : j ≤ f.dim
  pub column : (c : ℕ) → c < j
      → get_or row c nan ≡ term_sum f.dim f.left.now f.right.now 0 c f.dim
