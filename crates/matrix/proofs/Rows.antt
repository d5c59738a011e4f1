-- The product of two matrices, row after row. Assumes nothing.
use mathlib.Core.Path.{◌≡◌, refl, sym, ◌∙◌, subst}
use mathlib.Core.List.{List}
use Prim.Native.Nat.{ℕ, ◌+◌, ◌-◌, ◌*◌, ◌≤◌, ◌<◌}
use native.Mathlib.Nat.{not-suc-le-zero}
use native.Mathlib.Decide.{dec_le}
use native.Mathlib.Omega.{arith}
use lib.ListN.{length, get_or, take, drop}
use lib.Arith.{digits_lt}
use lib.Ieee.{Float, nan}
use borrow.Rule.Slice.PartMut.{put_mid, mid_of, same_len_mid}
use Rattle.matrix.specs.Matrix.{entry, term_sum, product}
use Rattle.matrix.proofs.Lists.{part_length, part_at, put_before, put_in}
use Rattle.matrix.proofs.Cells.{row_end, same_matrix}
use Rattle.matrix.proofs.Products.{length_product, entry_product, terms_same, first_row}

-- after i rows: they are those of the product
pub record Rows (n : ℕ) (left right before now : List Float) (i : ℕ) : Type 0 where
  pub len : length now ≡ length before
  pub rows : (r j : ℕ) → r < i → j < n → entry n now r j ≡ term_sum n left right r j n

module _ (n : ℕ) (left right before : List Float) (length-is : length before ≡ n * n) where
  pub rows_none : Rows n left right before before 0
  rows_none = record { len = refl; rows = λ r j h l. absurd (not-suc-le-zero h) }

  module _ (now : List Float) (i : ℕ) (p : Rows n left right before now i) (h : i < n) where
    abbrev pub left_row : List Float
    left_row = take (i * n + n - i * n) (drop (i * n) left)

    -- a row of the left matrix
    left_cell : (k : ℕ) → k < n → entry n left_row 0 k ≡ entry n left i k
    left_cell k l = first_row n k left_row ∙ part_at left (i * n) n k l

    pub rows_more :
        (new : List Float) → length new ≡ length (mid_of (i * n) (i * n + n - i * n) now)
        → ((j : ℕ) → j < n → get_or new j nan ≡ term_sum n left_row right 0 j n)
        → Rows n left right before (put_mid (i * n) (i * n + n - i * n) now new) (i + 1)
    rows_more new new-length terms-of = record {
      len = same_len_mid (i * n) size now new new-length ∙ p.len;
      rows = λ r j b l. here_or_before r j (dec_le i r) b l;
    }
      where
        size : ℕ
        size = i * n + n - i * n

        within : i * n ≤ length now
        within = omega (arith, p.len, row_end h)

        part_is : length (mid_of (i * n) size now) ≡ n
        part_is = part_length now (i * n) n (omega (arith, p.len, row_end h))

        here :
            (j : ℕ) → j < n
            → entry n (put_mid (i * n) size now new) i j ≡ term_sum n left right i j n
        here j l =
            put_in now new (i * n) size within j
            (subst (λ (m : ℕ). j < m) (sym (new-length ∙ part_is)) l)
            ∙ terms-of j l
            ∙ terms_same n left_row right left right 0 i j n left_cell (λ k a. refl)

        here_or_before :
            (r j : ℕ) → Dec (i ≤ r) → r < i + 1 → j < n
            → entry n (put_mid (i * n) size now new) r j ≡ term_sum n left right r j n
        here_or_before r j (yes a) b l =
            let q : i ≡ r = omega arith in
            subst
            (λ (m : ℕ).
            entry n (put_mid (i * n) size now new) m j ≡ term_sum n left right m j n) q (here j l)
        here_or_before r j (no a) b l =
            let q : r < i = omega arith in
            put_before now new (i * n) size within (r * n + j) (omega (arith, digits_lt q l))
            ∙ p.rows r j q l

  -- after the last row it is the product
  pub rows_all :
      (now : List Float) (i : ℕ) → Rows n left right before now i → n ≤ i
      → now ≡ product n left right
  rows_all now i p h =
      same_matrix n now (product n left right) (p.len ∙ length-is) (length_product n left right)
      (λ r j a b.
      p.rows r j (omega arith) b ∙ sym (entry_product n left right r j a b))
