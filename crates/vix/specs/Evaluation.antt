-- Rule 13.5: the evaluation of the VIX at a factor state. Definitions only.
use Rattle.std.specs.Prelude.{Bool, true, false, List, Float, Result, Ok, Err}
use Rattle.std.specs.Float.{binary64}
use Rattle.std.specs.Float.Ieee.{lt}
use Rattle.numeric.specs.Double.{plus_zero, finite}
use Rattle.numeric.specs.Root.{root}
use Rattle.refusal.specs.declared.BadSquared.{BadSquared}
use Rattle.refusal.specs.declared.BadSquared.TheVariants.{NotFinite, NotPositive}
use Rattle.vix.specs.declared.Vix.{Vix}
use Rattle.vix.specs.declared.Evaluation.{Evaluation}
use Rattle.vix.specs.Form.{raw_squared}

-- Rule 13.5: whether VIX squared is finite, then whether it is above zero
abbrev pub checked_by : Bool → Bool → Result Unit BadSquared
checked_by false above = Err NotFinite
checked_by true false = Err NotPositive
checked_by true true = Ok tt

-- Rule 13.5: of a VIX squared
unfoldable pub checked : Float → Result Unit BadSquared
unfolding lt
checked squared = checked_by (finite squared) (lt plus_zero squared)

-- Rule 13.5: where both got a Yes, the index is its root
abbrev pub with_index : Result Unit BadSquared → Float → Result Evaluation BadSquared
with_index (Ok _) squared = Ok (record { squared = squared; index = root binary64 squared })
with_index (Err fault) squared = Err fault

-- Rule 13.5: of a VIX squared
unfoldable pub evaluated : Float → Result Evaluation BadSquared
unfolding checked root
evaluated squared = with_index (checked squared) squared

-- Rule 13.5: the form at a factor state
unfoldable pub evaluation : Vix → List Float → Result Evaluation BadSquared
unfolding raw_squared evaluated
evaluation v factors = evaluated (raw_squared v factors)
