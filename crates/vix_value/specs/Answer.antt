-- Rules 17.1 and 17.2: what a VIX evaluation answers, with the number and the values of each case.
-- Definitions only.
use Rattle.std.specs.Prelude.{None, Result, Ok, Err}
use Rattle.numeric.specs.Double.{plus_zero}
use Rattle.refusal.specs.declared.Refusal.{Refusal}
use Rattle.refusal.specs.declared.Refusal.TheVariants.{Squared}
use Rattle.refusal.specs.declared.BadSquared.{BadSquared}
use Rattle.refusal.specs.Refusal.{number_of, place_of, no_place}
use Rattle.vix.specs.declared.Evaluation.{Evaluation}
use Rattle.vix_value.specs.declared.VixValue.{VixValue}

-- Rule 17.1: a refusal has its number and its place, and its values are zeros.
abbrev pub refused_value : Refusal → VixValue
refused_value refusal =
    record {
      number = number_of refusal;
      place = place_of refusal;
      squared = plus_zero;
      index = plus_zero;
    }

-- Rule 17.2: an answered call has VIX squared and the index.
abbrev pub value_of : Result Evaluation Refusal → VixValue
value_of (Ok e) = record { number = 0; place = no_place; squared = e.squared; index = e.index }
value_of (Err refusal) = refused_value refusal

-- Rules 13.5 and 17.2: 23 where VIX squared is not finite, 24 where it is not above zero, of no
-- path.
abbrev pub of_no_path : Result Evaluation BadSquared → Result Evaluation Refusal
of_no_path (Ok e) = Ok e
of_no_path (Err fault) = Err (Squared fault None)

abbrev pub evaluated_value : Result Evaluation BadSquared → VixValue
evaluated_value e = value_of (of_no_path e)
