-- The answer that crosses the edge, of each case. Definitions only.
use Rattle.std.specs.Prelude.{ℕ, Result, Ok, Err}
use Rattle.refusal.specs.declared.Refusal.{Refusal}
use Rattle.exponentiation.specs.declared.Exponentiation.{Exponentiation}
use Rattle.exponentiation.specs.Call.{answered, refused}

-- Rules 17.1 and 17.2: the number of squarings, or a refusal
abbrev pub answer_of : Result ℕ Refusal → Exponentiation
answer_of (Ok count) = answered count
answer_of (Err refusal) = refused refusal
