-- How large what a form of n factors is read off can be. Assumes nothing.
use mathlib.Core.Path.{◌≡◌, sym, subst}
use Prim.Native.Nat.{ℕ, ◌+◌, ◌-◌, ◌*◌, ◌≤◌}
use native.Mathlib.Omega.{arith}
use Rattle.matrix.proofs.Cells.{row_end, small}
use Rattle.generator_rows.specs.State.{pairs_before, dimension}
use Rattle.generator_rows.proofs.Pairs.{pairs_most}
use Rattle.generator_rows.proofs.Places.{dimension_most}

module _ {n dim : ℕ} (few : n ≤ 10) (d : dim ≡ dimension n) where
  pub dim_small : dim ≤ 67
  dim_small = subst (λ (x : ℕ). x ≤ 67) (sym d) (dimension_most few)

  pub size_small : dim * dim ≤ 4489
  size_small = small dim_small

  -- the integral's row is within the matrix
  pub row_within : (dim - 2) * dim + dim ≤ dim * dim
  row_within = row_end {i = dim - 2} (omega (arith, d))

-- the pairs in use are at most 55
pub few_pairs : {n count : ℕ} → n ≤ 10 → count ≡ pairs_before n n → count ≤ 55
few_pairs {n} h e = omega (arith, e, pairs_most n h)
