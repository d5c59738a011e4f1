-- Rows of entries in one list. Assumes nothing.
use mathlib.Core.Path.{◌≡◌, refl, ◌∙◌}
use mathlib.Core.List.{List}
use mathlib.Core.Logic.{⊎_elim}
use Prim.Native.Nat.{ℕ, ◌+◌, ◌*◌, ◌<◌, ◌≤◌}
use native.Mathlib.Nat.{mul-le-mul_right, suc-mul}
use native.Mathlib.Omega.{arith}
use lib.ListN.{get_or, set, length}
use lib.Seq.{get_or-set_same, get_or-set_other}
use lib.Ieee.{Float, nan}
use Rattle.model.proofs.First.{split}

-- a row ends before a later one begins
pub row_below : (q p n j : ℕ) → q < p → j < n → q * n + j < p * n
row_below q p n j h k = omega (arith, suc-mul q n, mul-le-mul_right n h)

pub row_last : (q p n j : ℕ) → q < p → j ≤ n → q * n + j ≤ p * n
row_last q p n j h k = omega (arith, suc-mul q n, mul-le-mul_right n h)

-- `l` is `l₀` with f 0, .. f (m - 1) from place `base` on
pub record Filled (l₀ l : List Float) (base m : ℕ) (f : ℕ → Float) : Type 0 where
  pub before : (x : ℕ) → x < base → get_or l x nan ≡ get_or l₀ x nan
  pub new : (j : ℕ) → j < m → get_or l (base + j) nan ≡ f j
  pub after : (x : ℕ) → base + m ≤ x → get_or l x nan ≡ get_or l₀ x nan

module _ (l₀ : List Float) (base : ℕ) (f : ℕ → Float) where
  pub filled_none : Filled l₀ l₀ base 0 f
  filled_none = record { before = λ x h. refl; new = λ j h. absurd (omega arith); after = λ x h. refl }

  pub filled_more : (l : List Float) (m : ℕ) (v : Float) → Filled l₀ l base m f → base + m < length l → v ≡ f m → Filled l₀ (set l (base + m) v) base (m + 1) f
  filled_more l m v h k e =
      record {
        before = λ x b. get_or-set_other l (base + m) x v nan (omega arith) ∙ h.before x b;
        new = λ j b.
            ⊎_elim (λ (z : j < m). get_or-set_other l (base + m) (base + j) v nan (omega arith) ∙ h.new j z)
            (λ (z : m ≤ j). let e' : j ≡ m = omega arith in rw e' (get_or-set_same l (base + m) v nan k ∙ e))
            (split j m);
        after = λ x b. get_or-set_other l (base + m) x v nan (omega arith) ∙ h.after x (omega arith);
      }
