-- A conversion as it crosses the edge. Definitions only.
use Rattle.std.specs.Prelude.{Float, Option, Some, None}
use Rattle.numeric.specs.Double.{plus_zero}
use Rattle.refusal.specs.Refusal.{no_place}
use Rattle.qrh.specs.declared.Conversion.{Conversion}

-- Rules 17.1 and 17.2: the double of a Decimal, or 1
abbrev pub conversion : Option Float → Conversion
conversion (Some v) = record { number = 0; place = no_place; value = v }
conversion None = record { number = 1; place = no_place; value = plus_zero }
