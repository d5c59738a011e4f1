-- The places of a matrix's entries. Assumes nothing.
use mathlib.Core.Path.{◌≡◌, sym, ap, ◌∙◌, subst}
use mathlib.Core.List.{List}
use Prim.Native.Nat.{ℕ, zero, suc, ◌+◌, ◌*◌, ◌/◌, ◌%◌, ◌≤◌, ◌<◌}
use native.Mathlib.Nat.{mul-le-mul, mul-le-mul_right, suc-mul, mod-lt}
use native.Mathlib.Nat.{div-lt_iff_lt-mul, div-add-mod'}
use native.Mathlib.Omega.{arith}
use lib.Arith.{digits_lt, digits_div, digits_mod}
use lib.ListN.{length, get_or}
use lib.Seq.{ext_get_or}
use lib.Ieee.{Float, nan}
use Rattle.numeric.proofs.Tables.{length_tabulate, get_d_tabulate}
use Rattle.matrix.specs.Matrix.{entry, matrix}

-- a cell of a matrix of dimension n is among its n × n
pub inside : {n i j : ℕ} → i < n → j < n → i * n + j < n * n
inside h l = digits_lt h l

-- and so is its row
pub row_end : {n i : ℕ} → i < n → i * n + n ≤ n * n
row_end {n} {i} h = subst (λ (m : ℕ). m ≤ n * n) (suc-mul i n) (mul-le-mul_right n h)

-- the largest matrix has 4489
pub small : {n : ℕ} → n ≤ 67 → n * n ≤ 4489
small h = mul-le-mul h h

-- ---- a matrix by its entries

module _ (n : ℕ) (f : ℕ → ℕ → Float) where
  pub length_matrix : length (matrix n f) ≡ n * n
  unfolding matrix
  length_matrix = length_tabulate (n * n) (λ k. f (k / n) (k % n))

  pub entry_matrix : (i j : ℕ) → i < n → j < n → entry n (matrix n f) i j ≡ f i j
  unfolding matrix
  entry_matrix i j h l =
      get_d_tabulate (n * n) (i * n + j) (λ k. f (k / n) (k % n)) nan (inside h l)
      ∙ ap (λ (k : ℕ). f k ((i * n + j) % n)) (digits_div i l)
      ∙ ap (f i) (digits_mod i l)

-- two lists of n × n entries are the same matrix where their entries are the same
pub same_matrix :
    (n : ℕ) (a b : List Float) → length a ≡ n * n → length b ≡ n * n
    → ((i j : ℕ) → i < n → j < n → entry n a i j ≡ entry n b i j) → a ≡ b
same_matrix zero a b la lb h =
    ext_get_or nan a b (la ∙ sym lb) (λ k l. absurd (none k (subst (λ (m : ℕ). k < m) la l)))
  where
    none : (k : ℕ) → k < 0 * 0 → ⊥
    none k l = omega arith
same_matrix (suc m) a b la lb h =
    ext_get_or nan a b (la ∙ sym lb) (λ k l. at k (subst (λ (x : ℕ). k < x) la l))
  where
    at : (k : ℕ) → k < suc m * suc m → get_or a k nan ≡ get_or b k nan
    at k l =
        subst (λ (x : ℕ). get_or a x nan ≡ get_or b x nan) (div-add-mod' k (suc m))
        (h (k / suc m) (k % suc m) ((div-lt_iff_lt-mul (omega arith)).1 l) (mod-lt k (omega arith)))
