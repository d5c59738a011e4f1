-- Where the pairs of a row stand. Assumes nothing.
use mathlib.Core.Path.{subst}
use Prim.Native.Nat.{ℕ, zero, suc, ◌+◌, ◌-◌, ◌<◌, ◌≤◌}
use native.Mathlib.Nat.{le_trans, add-zero, add-suc, add-sub_of_le}
use native.Mathlib.Omega.{arith}
use Rattle.generator_rows.specs.State.{pairs_before}

-- fewer factors, and fewer rows, have fewer pairs
fewer_factors : (n m i : ℕ) → n ≤ m → pairs_before n i ≤ pairs_before m i
unfolding pairs_before
fewer_factors n m zero h = omega arith
fewer_factors n m (suc i) h = omega (arith, fewer_factors n m i h)

more_rows : (n i d : ℕ) → pairs_before n i ≤ pairs_before n (i + d)
unfolding pairs_before
more_rows n i zero = rw add-zero (omega arith)
more_rows n i (suc d) = rw add-suc (omega (arith, more_rows n i d))

pub fewer_rows : (n i j : ℕ) → i ≤ j → pairs_before n i ≤ pairs_before n j
fewer_rows n i j h =
    subst (λ (x : ℕ). pairs_before n i ≤ pairs_before n x) (add-sub_of_le h) (more_rows n i (j - i))

-- a pair of row i is one of the pairs in use, and those are at most 55
pub pair_in_use : (n i k : ℕ) → i < n → k < n - i → pairs_before n i + k < pairs_before n n
unfolding pairs_before
pair_in_use n i k h l = omega (arith, fewer_rows n (suc i) n h)

pub pairs_most : (n : ℕ) → n ≤ 10 → pairs_before n n ≤ 55
unfolding pairs_before
pairs_most n h = le_trans (fewer_factors n 10 n h) (fewer_rows 10 n 10 h)

pub row_most : (n i : ℕ) → n ≤ 10 → i < n → pairs_before n i + (n - i) ≤ 55
unfolding pairs_before
row_most n i h l = le_trans (fewer_rows n (suc i) n l) (pairs_most n h)
