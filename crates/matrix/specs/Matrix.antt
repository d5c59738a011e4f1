-- Square matrices of doubles, and the operations that their exponential is made of. A matrix of
-- dimension n is the list of its n × n entries, row by row. Rows and columns count from 0.
-- Definitions only.
use Rattle.std.specs.Prelude.{ℕ, zero, suc, ◌+◌, ◌*◌, ◌/◌, ◌%◌, Bool, cond, List, map, eqb}
use Rattle.std.specs.Prelude.{get_or, Float}
use Rattle.std.specs.List.{list_all}
use Rattle.std.specs.Float.{nan}
use Rattle.std.specs.Float.Ieee.{eq, add, mul}
use Rattle.numeric.specs.Double.{plus, times, one, plus_zero, finite}
use Rattle.numeric.specs.Table.{tabulate}

-- Rule 12.1: the entry of row i and column j
abbrev pub entry : ℕ → List Float → ℕ → ℕ → Float
entry n a i j = get_or a (i * n + j) nan

-- Rule 12.1: the matrix whose entry of row i and column j is f i j
unfoldable pub matrix : ℕ → (ℕ → ℕ → Float) → List Float
unfolding tabulate
matrix n f = tabulate (n * n) (λ k. f (k / n) (k % n))

-- ---- the product

-- Rule 12.4: a sum with left × right added to it, and as it was where left equals zero
unfoldable pub with_term : Float → Float → Float → Float
unfolding eq add mul
with_term sum left right = cond (eq left plus_zero) sum (plus sum (times left right))

-- Rule 12.4: the first m terms of the product's entry (i, j), added in order, begun at +0.0
unfoldable pub term_sum : ℕ → List Float → List Float → ℕ → ℕ → ℕ → Float
unfolding with_term
term_sum n a b i j zero = plus_zero
term_sum n a b i j (suc k) = with_term (term_sum n a b i j k) (entry n a i k) (entry n b k j)

-- Rule 12.4: the product of a and b
unfoldable pub product : ℕ → List Float → List Float → List Float
unfolding matrix term_sum
product n a b = matrix n (λ i j. term_sum n a b i j n)

-- Rule 12.4: the product of a matrix and itself
unfoldable pub square : ℕ → List Float → List Float
unfolding product
square n a = product n a a

-- ---- entry by entry

-- Rule 12.5: each entry × x
unfoldable pub scaled : Float → List Float → List Float
unfolding mul
scaled x a = map (λ (e : Float). times e x) a

-- Rule 12.5: 1 on the diagonal and +0.0 elsewhere
unfoldable pub identity : ℕ → List Float
unfolding matrix
identity n = matrix n (λ i j. cond (eqb i j) one plus_zero)

-- Rule 12.5: + 1 on the diagonal
unfoldable pub plus_identity : ℕ → List Float → List Float
unfolding matrix add
plus_identity n a = matrix n (λ i j. cond (eqb i j) (plus (entry n a i j) one) (entry n a i j))

-- Rule 12.8: is every entry finite?
unfoldable pub all_finite : List Float → Bool
all_finite a = list_all finite a
