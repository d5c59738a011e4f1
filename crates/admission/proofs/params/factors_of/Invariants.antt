-- `admission::params::factors_of` meets its contract. After i factors, the first i are converted.
-- Assumes nothing.
use Rattle.std.proofs.Common.{◌≡◌, ℕ, ◌<◌, get_or, length}
use Rattle.std.specs.Float.{nan}
use Rattle.decimal.specs.Decimal.{value}
use Rattle.model.specs.Parameters.{zero_decimal}
use Rattle.admission.proofs.params.factors_of.Given as goal

abbrev pub invariant-loop-i : goal.invariant-loop-i
invariant-loop-i l =
    (length l.converted ≡ 10)
    × ((j : ℕ) → j < l.i → get_or l.converted j nan ≡ value (get_or l.factors j zero_decimal))
