-- What questions came to, of a function that prepares something where they pass. Definitions only.
use Rattle.std.specs.Prelude.{Result, Ok, Err}
use Rattle.refusal.specs.declared.Refusal.{Refusal}
use Rattle.refusal.specs.Questions.{Outcome, passed}

-- Rule 14.1: the outcome, without what was prepared
abbrev pub outcome_of : {A : Type 0} → Result A Refusal → Outcome
outcome_of (Ok prepared) = passed
outcome_of (Err refusal) = Err refusal
