-- The quadratic form of the VIX in four lanes: what the functions that add its terms leave.
-- Definitions only.
use Rattle.std.specs.Prelude.{◌≡◌, List, ℕ, ◌-◌, ◌<◌, get_or, Float}
use Rattle.std.specs.Float.{nan}
use Rattle.vix.specs.declared.Vix.{Vix}
use Rattle.vix.specs.Form.{linear_value, row_value}
use Rattle.lanes.specs.Inner.Lanes.{lane_factors}

-- the constant and the linear terms of a form in n factors
abbrev pub LinearValues : ℕ → Float → List Float → List (List Float) → List Float → Type 0
LinearValues n constant linear factors values =
    (v : Vix) (l : ℕ) → v.constant ≡ constant → v.linear ≡ linear → l < 4
    → get_or values l nan ≡ linear_value v (lane_factors n factors l) n

-- `before`, and the pairs of row i
abbrev pub RowAdded : ℕ → ℕ → List Float → List (List Float) → List Float → List Float → Type 0
RowAdded n i pairs factors before after =
    (v : Vix) (l : ℕ) → v.n ≡ n → v.pairs ≡ pairs → l < 4
    → get_or after l nan ≡ row_value v (lane_factors n factors l) i (get_or before l nan) (n - i)
