-- Lists of four entries. Assumes nothing.
use mathlib.Core.Path.{◌≡◌, refl}
use mathlib.Core.List.{◌∷◌, []}
use Prim.Native.Nat.{ℕ, zero, suc, ◌<◌}
use native.Mathlib.Omega.{arith}
use lib.ListN.{get_or}

-- entries of a kind
pub four_of : {A : Type 0} (default : A) (P : ℕ → A → Type 0) (a b c d : A) → P 0 a → P 1 b → P 2 c → P 3 d
    → (l : ℕ) → l < 4 → P l (get_or (a ∷ b ∷ c ∷ d ∷ []) l default)
four_of default P a b c d p q r s zero h = p
four_of default P a b c d p q r s (suc zero) h = q
four_of default P a b c d p q r s (suc (suc zero)) h = r
four_of default P a b c d p q r s (suc (suc (suc zero))) h = s
four_of default P a b c d p q r s (suc (suc (suc (suc l)))) h = absurd (many l h)
  where
    many : (l : ℕ) → suc (suc (suc (suc l))) < 4 → ⊥
    many l h = omega arith

-- equal entries
pub four_same : {A : Type 0} (default x : A) (l : ℕ) → l < 4 → get_or (x ∷ x ∷ x ∷ x ∷ []) l default ≡ x
four_same {A} default x = four_of default (λ (l : ℕ) (y : A). y ≡ x) x x x x refl refl refl refl
