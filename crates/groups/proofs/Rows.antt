-- Columns of the rows of four paths. Assumes nothing.
use mathlib.Core.Path.{◌≡◌, ap, ◌∙◌}
use mathlib.Core.List.{List}
use mathlib.Core.Logic.{⊎_elim}
use Prim.Native.Nat.{ℕ, ◌+◌, ◌*◌, ◌≤◌, ◌<◌}
use native.Mathlib.Omega.{arith}
use borrow.Author.Count.{below_more}
use lib.ListN.{length, get_or, set}
use lib.Seq.{get_or-set_same, get_or-set_other}
use lib.Ieee.{Float, nan}
use Rattle.model.proofs.First.{split}
use Rattle.walks.proofs.Cells.{row_below}

pub cell_apart : (count j i l m : ℕ) → i < count → m < count → j * count + i ≡ l * count + m → (j ≡ l) × (i ≡ m)
cell_apart count j i l m hi hm e =
    ⊎_elim (λ (z : j < l). absurd (omega (arith, row_below j l count i z hi)))
    (λ (z : l ≤ j).
    ⊎_elim (λ (y : l < j). absurd (omega (arith, row_below l j count m y hm)))
    (λ (y : j ≤ l). let s : j ≡ l = omega arith in let t : j * count ≡ l * count = ap (λ (x : ℕ). x * count) s in (s, omega arith)) (split l j))
    (split j l)

-- the column `m` of the first l rows is new
pub record Columns (count m : ℕ) (f : ℕ → Float) (l : ℕ) (before after : List Float) : Type 0 where
  pub new : (j : ℕ) → j < l → get_or after (j * count + m) nan ≡ f j
  pub kept : (j i : ℕ) → i < count → (i ≡ m → ⊥) → get_or after (j * count + i) nan ≡ get_or before (j * count + i) nan

pub columns_more : (count m : ℕ) (f : ℕ → Float) (l : ℕ) (before after : List Float) (v : Float) → m < count → l * count + m < length after → Columns count m f l before after → v ≡ f l → Columns count m f (l + 1) before (set after (l * count + m) v)
columns_more count m f l before after v hm h c e =
    record {
      new = below_more (λ (j : ℕ). get_or (set after (l * count + m) v) (j * count + m) nan ≡ f j) l
          (λ j k. get_or-set_other after (l * count + m) (j * count + m) v nan (λ z. let s = cell_apart count (j) m l m hm hm z in absurd (omega (arith, s.0))) ∙ c.new j k)
          (get_or-set_same after (l * count + m) v nan h ∙ e);
      kept = λ j i hi ne. get_or-set_other after (l * count + m) (j * count + i) v nan (λ z. ne (cell_apart count j i l m hi hm z).1) ∙ c.kept j i hi ne;
    }
