-- What is known of each element of an array that a struct holds: it is a value of its type. Assumes
-- nothing.
use mathlib.Core.List.{List, [], ◌∷◌}
use Prim.Native.Nat.{ℕ, zero, suc, ◌<◌}
use native.Mathlib.Omega.{arith}
use lib.ListN.{length, get_or}
use mir.Val.{Val}
use denote.Array.{Array, each}
use denote.Laws.{Is}
use denote.RattleType.{RattleType}
use denote.Shadow.{shadow}

module _ (R : RattleType) (default : R.Denot) where
  abbrev pub Known : R.Denot → Type 0
  Known x = (u : Val) × Is R x (u ∷ [])

  each_known : (xs : List R.Denot) (us : List Val) → shadow (each R.Denot R.own_val xs us) → (i : ℕ) → i < length xs → Known (get_or xs i default)
  each_known [] us known i h = absurd (omega arith)
  each_known (x ∷ xs) [] known i h = absurd known
  each_known (x ∷ xs) (u ∷ us) known zero h = (u, known.0)
  each_known (x ∷ xs) (u ∷ us) known (suc i) h = each_known xs us known.1 i (omega arith)

  pub element_known : (n : ℕ) (xs : List R.Denot) (vs : List Val) → Is (Array R n) xs vs → (i : ℕ) → i < n → Known (get_or xs i default)
  element_known n xs vs known i h = each_known xs known.0 known.1.1 i (omega (arith, known.1.0.1))
