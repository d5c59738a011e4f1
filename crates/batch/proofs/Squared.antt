-- What 23 and 24 come to for one path, by what its last VIX squared has. Assumes nothing.
use mathlib.Core.Path.{◌≡◌, refl}
use mathlib.Core.Bool.{Bool, true, false}
use Prim.Native.Nat.{ℕ}
use lib.Ieee.{Float, lt}
use Rattle.std.specs.Prelude.{Some, Result, Ok, Err}
use Rattle.numeric.specs.Double.{plus_zero, finite}
use Rattle.refusal.specs.declared.Refusal.TheVariants.{Squared}
use Rattle.refusal.specs.declared.BadSquared.{BadSquared}
use Rattle.refusal.specs.declared.BadSquared.TheVariants.{NotFinite, NotPositive}
use Rattle.refusal.specs.Questions.{Outcome, passed, first_no, unless}
use Rattle.vix.specs.Evaluation.{checked_by, checked}
use Rattle.batch.specs.Report.{questions_of_squared}

-- of path p
abbrev pub of_path : ℕ → Result Unit BadSquared → Outcome
of_path p (Ok _) = passed
of_path p (Err fault) = Err (Squared fault (Some p))

both : (p : ℕ) (f a : Bool)
    → unless f (Squared NotFinite (Some p)) (unless a (Squared NotPositive (Some p)) passed)
    ≡ of_path p (checked_by f a)
both p false a = refl
both p true false = refl
both p true true = refl

pub asked_is : (squared : Float) (p : ℕ)
    → first_no (questions_of_squared squared p) ≡ of_path p (checked squared)
unfolding first_no checked
asked_is squared p = both p (finite squared) (lt plus_zero squared)
