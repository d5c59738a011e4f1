-- The law of the conversion, of its answer. Definitions only.
use Rattle.std.specs.Prelude.{◌≡◌, false, Option, Some, None, Float}
use Rattle.decimal.specs.declared.Decimal.{Decimal}
use Rattle.decimal.specs.Decimal.{scale_fits, ConvertsToNearest}

-- Rule 18.12: the answer is the nearest double, or a refusal where the Decimal does not fit
abbrev pub AnswersNearest : Decimal → Option Float → Type 0
AnswersNearest d (Some v) = ConvertsToNearest d v
AnswersNearest d None = scale_fits d ≡ false
