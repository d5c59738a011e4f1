-- The matrices and workspaces that functions take, and what they add. Definitions only.
use Rattle.std.specs.Prelude.{ℕ, ◌*◌, ◌≤◌, ◌<◌, ◌≡◌, List, length, get_or, take, drop, Float}
use Rattle.std.specs.Float.{nan}
use Rattle.numeric.specs.Double.{plus, times}

-- a matrix of a dimension of at most 67
abbrev pub IsMatrix : ℕ → List Float → Type 0
IsMatrix n m = (n ≤ 67) × (length m ≡ n * n)

-- a workspace has room for five matrices of a dimension of at most 67
abbrev pub IsWorkspace : ℕ → List Float → Type 0
IsWorkspace n work = (n ≤ 67) × (length work ≡ 5 * (n * n))

-- the matrix that begins at a place of the workspace
abbrev pub matrix_at : ℕ → ℕ → List Float → List Float
matrix_at n at work = take (n * n) (drop at work)

-- sums with left × right added to them, entry by entry
pub record Added (left : Float) (right before after : List Float) : Type 0 where
  pub len : length after ≡ length before
  pub sums : (l : ℕ) → l < length right
      → get_or after l nan ≡ plus (get_or before l nan) (times left (get_or right l nan))
