-- The first of a row. Definitions only.
use Rattle.std.proofs.Math.Option.{Option, none, some}
use Rattle.std.specs.Prelude.{ℕ, zero, suc}

-- Rule 7.6: the earlier one where there is one, else the later
abbrev pub or_else : {A : Type 0} → Option A → Option A → Option A
or_else none later = later
or_else (some x) later = some x

-- Rule 7.6: the first that there is among f 1, .. f n
unfoldable pub first_some : {A : Type 0} → (ℕ → Option A) → ℕ → Option A
first_some f zero = none
first_some f (suc n) = or_else (first_some f n) (f (suc n))
