-- Rules 13.3 and 13.4: the value of the quadratic form at a factor state. Definitions only.
use Rattle.std.specs.Prelude.{List, ℕ, zero, suc, ◌+◌, ◌-◌, get_or, Float}
use Rattle.std.specs.Float.{nan}
use Rattle.std.specs.Float.Ieee.{add, mul}
use Rattle.numeric.specs.Double.{plus, times}
use Rattle.generator_rows.specs.State.{pairs_before}
use Rattle.vix.specs.declared.Vix.{Vix}

-- Rule 13.3: the constant, and the first k linear terms
unfoldable pub linear_value : Vix → List Float → ℕ → Float
unfolding add mul
linear_value v factors zero = v.constant
linear_value v factors (suc k) =
    plus (linear_value v factors k) (times (get_or v.linear k nan) (get_or factors k nan))

-- Rule 13.3: `before`, and then coefficient × factor × factor of the first k pairs of row i
unfoldable pub row_value : Vix → List Float → ℕ → Float → ℕ → Float
unfolding add mul
row_value v factors i before zero = before
row_value v factors i before (suc k) =
    plus (row_value v factors i before k)
    (times
    (times (get_or v.pairs (pairs_before v.n i + k) nan) (get_or factors i nan))
    (get_or factors (i + k) nan))

-- Rule 13.3: the value with the pairs of the first i rows
unfoldable pub value_through : Vix → List Float → ℕ → Float
unfolding linear_value row_value
value_through v factors zero = linear_value v factors v.n
value_through v factors (suc i) = row_value v factors i (value_through v factors i) (v.n - i)

-- Rule 13.4: scale × value
unfoldable pub raw_squared : Vix → List Float → Float
unfolding value_through mul
raw_squared v factors = times v.scale (value_through v factors v.n)
