-- The places of the state. Assumes nothing.
use mathlib.Core.Path.{◌≡◌, sym, ap, ◌∙◌}
use Prim.Native.Nat.{ℕ, zero, suc, ◌+◌, ◌-◌, ◌*◌, ◌/◌, ◌<◌, ◌≤◌}
use native.Mathlib.Nat.{mul-suc, suc-mul, zero-mul, mul-le-mul, min-eq_left, min-eq_right}
use native.Mathlib.Nat.{max-eq_left, max-eq_right}
use native.Mathlib.Decide.{dec_le}
use native.Mathlib.Omega.{arith}
use Rattle.generator_rows.specs.State.{pairs_before, pair_at, integral_at, dimension}
use Rattle.generator_rows.proofs.Pairs.{pair_in_use, pairs_most}

-- ---- how many pairs there are, as a product

pub twice_pairs : (n i : ℕ) → i ≤ n → i * (2 * n + 1 - i) ≡ 2 * pairs_before n i
unfolding pairs_before
twice_pairs n zero h = zero-mul _
twice_pairs n (suc i) h =
    let less : 2 * n + 1 - i ≡ suc (2 * n + 1 - suc i) = omega arith in
    let more : i * (2 * n + 1 - i) ≡ i * (2 * n + 1 - suc i) + i = ap (λ (x : ℕ). i * x) less
    ∙ mul-suc i (2 * n + 1 - suc i) in
    omega (arith, suc-mul i (2 * n + 1 - suc i), more, twice_pairs n i (omega arith))

-- the dimension as it is usually written
pub dimension_is : (n : ℕ) → dimension n ≡ n + n * (n + 1) / 2 + 2
dimension_is n =
    let all : n ≤ n = omega arith in
    let count : 2 * n + 1 - n ≡ n + 1 = omega arith in
    omega (arith, sym (ap (λ (x : ℕ). n * x) count) ∙ twice_pairs n n all)

pub product_small : {n i : ℕ} → n ≤ 10 → i ≤ n → i * (2 * n + 1 - i) ≤ 210
product_small {n} {i} h l =
    let less : i ≤ 10 = omega arith in
    let most : 2 * n + 1 - i ≤ 21 = omega arith in
    mul-le-mul less most

pub pairs_few : {n i : ℕ} → n ≤ 10 → i ≤ n → pairs_before n i ≤ 105
pairs_few {n} {i} h l = omega (arith, twice_pairs n i l, product_small h l)

-- ---- a pair in either order

pub pair_up : (n : ℕ) {i j : ℕ} → i ≤ j → n + pairs_before n i + (j - i) ≡ pair_at n i j
pair_up n h = rw (min-eq_left h, max-eq_right h)

pub pair_down : (n : ℕ) {i j : ℕ} → j ≤ i → n + pairs_before n j + (i - j) ≡ pair_at n i j
pair_down n h = rw (min-eq_right h, max-eq_left h)

-- the first pair of a row
pub first_pair : (n i : ℕ) → pair_at n i i ≡ n + pairs_before n i
first_pair n i =
    let same : i ≤ i = omega arith in
    sym (pair_up n same) ∙ omega arith

-- and the others of the row come after it
pub pair_after : (n : ℕ) {i j : ℕ} → i ≤ j → pair_at n i j ≡ pair_at n i i + (j - i)
pair_after n {i} h = omega (arith, pair_up n h, first_pair n i)

-- ---- bounds

pub integral_most : {n : ℕ} → n ≤ 10 → integral_at n ≤ 65
integral_most {n} h = omega (arith, pairs_most n h)

pub dimension_most : {n : ℕ} → n ≤ 10 → dimension n ≤ 67
dimension_most h = omega (arith, integral_most h)

up_inside : {n i j : ℕ} → i ≤ j → j < n → pair_at n i j < integral_at n
up_inside {n} {i} {j} h l =
    omega (arith, pair_up n h, pair_in_use n i (j - i) (omega arith) (omega arith))

pub pair_inside : {n i j : ℕ} → i < n → j < n → pair_at n i j < integral_at n
pair_inside {n} {i} {j} h l = go (dec_le i j)
  where
    go : Dec (i ≤ j) → pair_at n i j < integral_at n
    go (yes a) = up_inside a l
    go (no a) =
        let b : j ≤ i = omega arith in
        omega (arith, pair_down n b, pair_in_use n j (i - j) (omega arith) (omega arith))

pub pair_most : {n i j : ℕ} → n ≤ 10 → i < n → j < n → pair_at n i j < 67
pair_most few h l = omega (arith, pair_inside h l, integral_most few)

-- the pairs of row i end where those of the next begin, and before the integral
pub row_inside : {n i : ℕ} → i < n → pair_at n i i + (n - i) ≤ integral_at n
row_inside {n} {i} h =
    let one : n - i - 1 < n - i = omega arith in
    omega (arith, first_pair n i, pair_in_use n i (n - i - 1) h one)
