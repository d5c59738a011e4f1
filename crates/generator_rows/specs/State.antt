-- Rules 11.1 and 11.2: the order of the moment system's state, and the places in it. Indices count
-- from 0. Definitions only.
use Rattle.std.specs.Prelude.{List, [], ◌++◌, ℕ, zero, suc, ◌+◌, ◌-◌, min, max, Float}

-- Rule 11.1: f 0, f 1, .. f (n - 1), one after the other
unfoldable pub joined : (ℕ → List Float) → ℕ → List Float
joined f zero = []
joined f (suc n) = joined f n ++ f n

-- Rule 11.1: what there is for each pair (i, j) with i ≤ j: for the first k pairs of row i, and for
-- those of the first i rows, of n factors
unfoldable pub pairs_of_row : (ℕ → ℕ → List Float) → ℕ → ℕ → List Float
unfolding joined
pairs_of_row pair i k = joined (λ m. pair i (i + m)) k

unfoldable pub pairs_of_rows : (ℕ → ℕ → List Float) → ℕ → ℕ → List Float
unfolding joined pairs_of_row
pairs_of_rows pair n i = joined (λ r. pairs_of_row pair r (n - r)) i

-- Rule 11.1: the n means, the pairs row by row, the integral of E[V], the constant.
unfoldable pub in_state_order : ℕ → (ℕ → List Float) → (ℕ → ℕ → List Float)
    → List Float → List Float → List Float
unfolding joined pairs_of_rows
in_state_order n mean pair integral constant =
    joined mean n ++ pairs_of_rows pair n n ++ integral ++ constant

-- Rule 11.2: how many pairs stand in the rows before row i, of n factors.
unfoldable pub pairs_before : ℕ → ℕ → ℕ
pairs_before n zero = 0
pairs_before n (suc i) = pairs_before n i + (n - i)

-- Rule 11.2: mean i stands at i; here is the place of the pair of i and j, in either order, of the
-- integral and of the constant; and how long the state is.
abbrev pub pair_at : ℕ → ℕ → ℕ → ℕ
pair_at n i j = n + pairs_before n (min i j) + (max i j - min i j)

abbrev pub integral_at : ℕ → ℕ
integral_at n = n + pairs_before n n

abbrev pub constant_at : ℕ → ℕ
constant_at n = integral_at n + 1

-- Rule 11.2: how long the state is
abbrev pub dimension : ℕ → ℕ
dimension n = integral_at n + 2
