-- Rules 11.3 to 11.6: the rows of the moment system's generator, over its state. Definitions only.
-- With weights c and discounts gamma, the means m and the second moments M of the factors follow
--   m_i'  = -gamma_i m_i - lambda × sum over k of c_k m_k
--   M_ij' = -(gamma_i + gamma_j) M_ij - lambda × sum over k of c_k (M_kj + M_ik) + eta² E[V]
--   E[V]  = a × sum over k and l of c_k c_l M_kl - 2 a b × sum over k of c_k m_k + a b² + c
-- and the integral w of E[V] follows w' = E[V]. Indices, rows and columns count from 0.
use Rattle.std.specs.Prelude.{cond, List, [], ◌∷◌, ℕ, zero, suc, eqb, get_or, Float}
use Rattle.std.specs.Float.{nan}
use Rattle.std.specs.Float.Ieee.{add, mul, neg}
use Rattle.numeric.specs.Double.{plus, times, one, two, plus_zero}
use Rattle.numeric.specs.Table.{tabulate}
use Rattle.model.specs.declared.Kernel.{Kernel}
use Rattle.model.specs.declared.Params.{Params}
use Rattle.generator_rows.specs.State.{in_state_order, pairs_before, pair_at, dimension}

-- ---- Rule 11.3: E[V] as a row over the state

-- Rule 11.3: weight i and discount i
abbrev pub weight : Kernel → ℕ → Float
weight k i = get_or k.weights i nan

abbrev pub discount : Kernel → ℕ → Float
discount k i = get_or k.discounts i nan

-- Rule 11.3: -2 × a × b × weight at a mean
unfoldable pub mean_coefficient : Kernel → Params → ℕ → Float
unfolding mul neg
mean_coefficient k p i = times (times (times (neg two) p.a) p.b) (weight k i)

-- Rule 11.3: a × weight × weight at a pair, twice where its two factors differ
unfoldable pub pair_coefficient : Kernel → Params → ℕ → ℕ → Float
unfolding mul
pair_coefficient k p i j =
    times (times (times (cond (eqb i j) one two) p.a) (weight k i)) (weight k j)

-- Rule 11.3: a × b × b + c at the constant
unfoldable pub constant_coefficient : Params → Float
unfolding add mul
constant_coefficient p = plus (times (times p.a p.b) p.b) p.c

-- Rule 11.3: E[V] as a row over the state
unfoldable pub variance_row : Kernel → Params → List Float
unfolding in_state_order mean_coefficient pair_coefficient constant_coefficient
variance_row k p =
    in_state_order k.n (λ i. mean_coefficient k p i ∷ []) (λ i j. pair_coefficient k p i j ∷ [])
    (plus_zero ∷ []) (constant_coefficient p ∷ [])

-- ---- Rule 11.4: each entry begins at +0.0, and what is added to it is added in order

-- Rule 11.4: what the entry of a column becomes where a value is added at column `at`
unfoldable pub added_at : ℕ → Float → ℕ → Float → Float
unfolding add
added_at at value column sum = cond (eqb column at) (plus sum value) sum

-- Rule 11.4: the mean reversion by factor m: (-lambda) × weight
unfoldable pub mean_reversion : Kernel → Params → ℕ → Float
unfolding mul neg
mean_reversion k p m = times (neg p.lambda) (weight k m)

-- Rule 11.5: the row of mean i has -discount at its own column, then the mean reversion at each
-- mean; an entry of it after so many of these
unfoldable pub mean_entry : Kernel → Params → ℕ → ℕ → ℕ → Float
unfolding added_at mean_reversion neg
mean_entry k p i column zero = added_at i (neg (discount k i)) column plus_zero
mean_entry k p i column (suc m) =
    added_at m (mean_reversion k p m) column (mean_entry k p i column m)

-- Rule 11.5: the whole row
unfoldable pub mean_row : Kernel → Params → ℕ → List Float
unfolding tabulate mean_entry pairs_before
mean_row k p i = tabulate (dimension k.n) (λ column. mean_entry k p i column k.n)

-- Rule 11.6: the row of the pair (i, j) has -(discount + discount) at its own column, then for each
-- m the mean reversion at the pairs (m, j) and (i, m)
unfoldable pub drift_entry : Kernel → Params → ℕ → ℕ → ℕ → ℕ → Float
unfolding added_at mean_reversion add neg pairs_before
drift_entry k p i j column zero =
    added_at (pair_at k.n i j) (neg (plus (discount k i) (discount k j))) column plus_zero
drift_entry k p i j column (suc m) =
    added_at (pair_at k.n i m) (mean_reversion k p m) column
    (added_at (pair_at k.n m j) (mean_reversion k p m) column (drift_entry k p i j column m))

-- Rule 11.6: and at last eta² × E[V] at every column
unfoldable pub pair_row : Kernel → Params → ℕ → ℕ → List Float
unfolding tabulate drift_entry variance_row add mul pairs_before
pair_row k p i j =
    tabulate (dimension k.n)
    (λ column.
    plus (drift_entry k p i j column k.n)
    (times (times p.eta p.eta) (get_or (variance_row k p) column nan)))
