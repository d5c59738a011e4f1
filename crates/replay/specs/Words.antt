-- What the contracts of `replay` cite. Definitions only.
use Rattle.std.specs.Prelude.{◌≡◌, ℕ, ◌+◌, List, length}

-- of the words that were left, n were read
abbrev pub Read : {A : Type 0} → ℕ → List A → List A → Type 0
Read n before after = length before ≡ n + length after
