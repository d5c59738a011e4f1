-- A question that is asked before the first step. Definitions only.
use Rattle.refusal.specs.declared.Refusal.{Refusal}
use Rattle.paths.specs.declared.Refused.{Refused}

-- Rule 17.3: its refusal, with no step taken
abbrev pub before_steps : Refusal → Refused
before_steps refusal = record { refusal = refusal; steps = 0 }
