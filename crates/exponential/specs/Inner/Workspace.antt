-- What the steps of the exponential say of the workspace, and what it comes to. Definitions only.
use Rattle.std.specs.Prelude.{ℕ, ◌≡◌, IfSome, OnSome, List, Float}
use Rattle.std.specs.declared.option.Option.{Option}
use Rattle.std.specs.Bool.{then_some}
use Rattle.exponential.specs.Norm.{norm1}
use Rattle.exponential.specs.Exponential.{squarings, IsLeast, exponential_finite}

-- the number of squarings, where 17 is passed
unfoldable pub exponentiated : ℕ → List Float → Option ℕ
unfolding exponential_finite squarings norm1
exponentiated n a = then_some (exponential_finite n a) (squarings (norm1 n a))

-- and then the result stands in its place
abbrev pub Holds : Option ℕ → List Float → List Float → Type 0
Holds outcome place result = OnSome outcome (place ≡ result)

-- and no smaller number of squarings is enough for the norm
abbrev pub Fewest : Option ℕ → Float → Type 0
Fewest outcome norm = IfSome outcome (IsLeast norm)
