-- The product, entry by entry. Assumes nothing.
use mathlib.Core.Path.{◌≡◌, refl, sym, ap, ◌∙◌, subst}
use mathlib.Core.Bool.{true, false}
use mathlib.Core.List.{List}
use Prim.Native.Nat.{ℕ, zero, suc, ◌+◌, ◌-◌, ◌*◌, ◌≤◌, ◌<◌}
use native.Mathlib.Nat.{zero-mul, zero-add, not-suc-le-zero}
use native.Mathlib.Numerals.{add-one}
use native.Mathlib.Omega.{arith}
use lib.ListN.{length, get_or, take, drop, replicate, length-replicate, get_or-replicate}
use lib.Ieee.{Float, nan, eq, ne}
use borrow.Author.Tests.{not-true, not-false}
use Rattle.numeric.specs.Double.{plus, times, plus_zero}
use Rattle.matrix.specs.Matrix.{entry, with_term, term_sum, product}
use Rattle.matrix.specs.Inner.Row.{ColumnSums, Filled}
use Rattle.matrix.specs.Inner.Workspace.{Added}
use Rattle.matrix.specs.declared.product.Factors.{Factors}
use Rattle.matrix.proofs.Cells.{row_end, length_matrix, entry_matrix}
use Rattle.matrix.proofs.Lists.{part_length, part_at}

-- ---- an entry

module _ (n : ℕ) (a b : List Float) where
  pub length_product : length (product n a b) ≡ n * n
  unfolding product
  length_product = length_matrix n (λ i j. term_sum n a b i j n)

  pub entry_product : (i j : ℕ) → i < n → j < n → entry n (product n a b) i j ≡ term_sum n a b i j n
  unfolding product
  entry_product = entry_matrix n (λ i j. term_sum n a b i j n)

-- the terms turn on a row of the left matrix and a column of the right one, and on nothing else
pub terms_same :
    (n : ℕ) (a b a' b' : List Float) (i i' j m : ℕ)
    → ((k : ℕ) → k < m → entry n a i k ≡ entry n a' i' k)
    → ((k : ℕ) → k < m → entry n b k j ≡ entry n b' k j)
    → term_sum n a b i j m ≡ term_sum n a' b' i' j m
unfolding term_sum
terms_same n a b a' b' i i' j zero l r = refl
terms_same n a b a' b' i i' j (suc m) l r =
    let before =
    terms_same n a b a' b' i i' j m (λ k h. l k (omega arith)) (λ k h. r k (omega arith))
    in
    rw (before, l m (omega arith), r m (omega arith))

-- ---- a row

-- a list of n entries is a matrix's row 0
pub first_row : (n k : ℕ) (l : List Float) → entry n l 0 k ≡ get_or l k nan
first_row n k l = ap (λ (j : ℕ). get_or l j nan) (ap (λ (j : ℕ). j + k) (zero-mul n) ∙ zero-add k)

module _ (n : ℕ) (a b : List Float) (i j k : ℕ) where
  term_skip :
      eq (entry n a i k) plus_zero ≡ true → term_sum n a b i j k ≡ term_sum n a b i j (k + 1)
  unfolding term_sum with_term
  term_skip e = rw (add-one, e)

  term_add :
      eq (entry n a i k) plus_zero ≡ false
      → plus (term_sum n a b i j k) (times (entry n a i k) (entry n b k j))
      ≡ term_sum n a b i j (k + 1)
  unfolding term_sum with_term
  term_add e = rw (add-one, e)

-- ---- the sums of columns, term after term

module _ (f : Factors) (from width : ℕ) where
  abbrev Sums : ℕ → List Float → Type 0
  Sums k sums = ColumnSums f from width sums k

  abbrev sum_of : ℕ → ℕ → Float
  sum_of l k = term_sum f.dim f.left.now f.right.now 0 (from + l) k

  pub sums_none : (sums : List Float) → sums ≡ replicate width plus_zero → Sums 0 sums
  unfolding term_sum
  sums_none sums e =
      subst (Sums 0) (sym e)
      (record {
        len = length-replicate width plus_zero;
        sum = λ l h. get_or-replicate width l plus_zero nan h;
      })

  pub sums_skip : (sums now : List Float) (k : ℕ) → Sums k sums
      → ne (get_or f.left.now k nan) plus_zero ≡ false → now ≡ sums → Sums (k + 1) now
  unfolding ne
  sums_skip sums now k p e q =
      subst (Sums (k + 1)) (sym q)
      (record {
        len = p.len;
        sum = λ l h. p.sum l h ∙ term_skip f.dim f.left.now f.right.now 0 (from + l) k skip;
      })
    where
      skip : eq (entry f.dim f.left.now 0 k) plus_zero ≡ true
      skip = rw first_row (not-false _ e)

  pub sums_add : (sums after now : List Float) (k : ℕ) → k < f.dim → from + width ≤ f.dim
      → Sums k sums → ne (get_or f.left.now k nan) plus_zero ≡ true
      → Added (get_or f.left.now k nan)
      (take (k * f.dim + from + width - (k * f.dim + from)) (drop (k * f.dim + from) f.right.now))
      sums after
      → now ≡ after → Sums (k + 1) now
  unfolding ne
  sums_add sums after now k h fits p e s q =
      subst (Sums (k + 1)) (sym q) (record { len = s.len ∙ p.len; sum = added })
    where
      at : ℕ
      at = k * f.dim + from

      part : List Float
      part = take (at + width - at) (drop at f.right.now)

      part_long : length part ≡ width
      part_long = part_length f.right.now at width (omega (arith, row_end h, f.right_long))

      part_is : (l : ℕ) → l < width → get_or part l nan ≡ entry f.dim f.right.now k (from + l)
      part_is l b =
          part_at f.right.now at width l b ∙ ap (λ (m : ℕ). get_or f.right.now m nan) (omega arith)

      nonzero : eq (entry f.dim f.left.now 0 k) plus_zero ≡ false
      nonzero = rw first_row (not-true _ e)

      added : (l : ℕ) → l < width → get_or after l nan ≡ sum_of l (k + 1)
      added l b =
          let inside : l < length part = omega (arith, part_long) in
          let term = term_add f.dim f.left.now f.right.now 0 (from + l) k nonzero in
          s.sums l inside ∙ rw (p.sum l b, part_is l b, ← first_row f.dim k f.left.now) term

-- ---- a row of which no block is filled yet

pub filled_none : (f : Factors) (row : List Float) → length row ≡ f.dim → Filled f row 0
filled_none f row l =
    record { len = l; within = omega arith; column = λ c h. absurd (not-suc-le-zero h) }
