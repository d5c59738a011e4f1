-- Rows of the generator in the workspace, each entry times the window. Assumes nothing.
use mathlib.Core.Path.{◌≡◌, refl, sym, ap, ◌∙◌, subst}
use mathlib.Core.List.{List, [], ◌∷◌, ◌++◌, map-append}
use Prim.Native.Nat.{ℕ, zero, suc, ◌+◌, ◌-◌, ◌*◌, ◌≤◌, ◌<◌}
use native.Mathlib.Nat.{add-mul}
use native.Mathlib.Numerals.{add-one}
use native.Mathlib.Omega.{arith}
use lib.ListN.{length, get_or, take, set, replicate, length-replicate, get_or-replicate}
use lib.Seq.{take-suc, length-take-le, get_or-take, ext_get_or}
use lib.Ieee.{Float, nan}
use Rattle.numeric.specs.Double.{times, plus_zero}
use Rattle.numeric.proofs.Tables.{length_tabulate}
use Rattle.model.specs.declared.Kernel.{Kernel}
use Rattle.model.specs.declared.Params.{Params}
use Rattle.model.specs.Inner.InUse.{kernel_in_use}
use Rattle.matrix.specs.Matrix.{scaled}
use Rattle.matrix.proofs.Lists.{length_scaled}
use Rattle.generator_rows.specs.Inner.Appended.{Appended}
use Rattle.generator_rows.specs.State.{pairs_before, pair_at, joined, pairs_of_row, pairs_of_rows}
use Rattle.generator_rows.specs.State.{in_state_order, dimension, integral_at, constant_at}
use Rattle.generator_rows.specs.Rows.{mean_row, pair_row, variance_row}
use Rattle.generator.specs.Generator.{generator}
use Rattle.generator_rows.proofs.Places.{dimension_most, first_pair, pair_after}
use Rattle.generator_rows.proofs.Appending.{appended_none, appended_one, appended_then, joined_more}
use Rattle.generator_rows.proofs.Appending.{rows_more, length_joined, length_of_row, length_of_rows}
use Rattle.generator_rows.proofs.Appending.{order_written}

-- ---- entries times a factor

scaled_append : (x : Float) (a b : List Float) → scaled x (a ++ b) ≡ scaled x a ++ scaled x b
unfolding scaled
scaled_append x a b = map-append (λ (e : Float). times e x) a b

scaled_one : (x y : Float) → scaled x (y ∷ []) ≡ times y x ∷ []
unfolding scaled
scaled_one x y = refl

scaled_joined :
    (x : Float) (f : ℕ → List Float) (n : ℕ) → joined (λ i. scaled x (f i)) n
    ≡ scaled x (joined f n)
unfolding joined scaled
scaled_joined x f zero = refl
scaled_joined x f (suc n) =
    ap (λ (l : List Float). l ++ scaled x (f n)) (scaled_joined x f n)
    ∙ sym (scaled_append x (joined f n) (f n))

scaled_pairs :
    (x : Float) (pair : ℕ → ℕ → List Float) (n i : ℕ)
    → pairs_of_rows (λ i j. scaled x (pair i j)) n i ≡ scaled x (pairs_of_rows pair n i)
unfolding pairs_of_rows scaled
scaled_pairs x pair n zero = refl
scaled_pairs x pair n (suc i) =
    ap (λ (l : List Float). l ++ pairs_of_row (λ i j. scaled x (pair i j)) i (n - i))
    (scaled_pairs x pair n i)
    ∙ ap (λ (l : List Float). scaled x (pairs_of_rows pair n i) ++ l)
    (scaled_joined x (λ m. pair i (i + m)) (n - i))
    ∙ sym (scaled_append x (pairs_of_rows pair n i) (pairs_of_row pair i (n - i)))

scaled_order :
    (x : Float) (n : ℕ) (mean : ℕ → List Float) (pair : ℕ → ℕ → List Float)
    (integral constant : List Float) → in_state_order n (λ i. scaled x (mean i))
    (λ i j. scaled x (pair i j)) (scaled x integral) (scaled x constant)
    ≡ scaled x (in_state_order n mean pair integral constant)
unfolding in_state_order
scaled_order x n mean pair integral constant =
    let means = joined mean n in
    let pairs = pairs_of_rows pair n n in
    ap (λ (l : List Float). l ++ pairs_of_rows (λ i j. scaled x (pair i j)) n n ++ scaled x integral
    ++ scaled x constant) (scaled_joined x mean n)
    ∙ ap (λ (l : List Float). scaled x means ++ l ++ scaled x integral ++ scaled x constant)
    (scaled_pairs x pair n n)
    ∙ ap (λ (l : List Float). l ++ scaled x integral ++ scaled x constant)
    (sym (scaled_append x means pairs))
    ∙ ap (λ (l : List Float). l ++ scaled x constant)
    (sym (scaled_append x (means ++ pairs) integral))
    ∙ sym (scaled_append x (means ++ pairs ++ integral) constant)

take_replicate : (n m : ℕ) → n ≤ m → take n (replicate m plus_zero) ≡ replicate n plus_zero
take_replicate n m h =
    let long = length-take-le n (replicate m plus_zero)
    (omega (arith, length-replicate m plus_zero)) in
    ext_get_or nan (take n (replicate m plus_zero)) (replicate n plus_zero) (long
    ∙ sym (length-replicate n plus_zero))
    (λ i l.
    let b : i < n = omega arith in
    get_or-take n (replicate m plus_zero) i nan b ∙ get_or-replicate m i plus_zero nan (omega arith)
    ∙ sym (get_or-replicate n i plus_zero nan b))

-- ---- one row, entry by entry

module _ (window : Float) (row : List Float) where
  pub row_none : (at : ℕ) (l : List Float) → Appended at (scaled window (take 0 row)) l l
  unfolding scaled
  row_none at l = appended_none at l

  pub row_more :
      {at column : ℕ} {x y : List Float} → column < length row
      → Appended at (scaled window (take column row)) x y → at + column < length y
      → Appended at (scaled window (take (column + 1) row)) x
      (set y (at + column) (times (get_or row column nan) window))
  row_more {at} {column} {x} {y} h l b =
      subst (λ (new : List Float). Appended at new x
      (set y (at + column) (times (get_or row column nan) window))) (sym grown)
      (appended_then l (appended_one (at + column) y (times (get_or row column nan) window) b)
      (ap (λ (n : ℕ). at + n) (sym long)))
    where
      long : length (scaled window (take column row)) ≡ column
      long = length_scaled window (take column row) ∙ length-take-le column row (omega arith)

      grown :
          scaled window (take (column + 1) row) ≡ scaled window (take column row)
          ++ times (get_or row column nan) window ∷ []
      grown =
          ap (λ (n : ℕ). scaled window (take n row)) (add-one column)
          ∙ ap (scaled window) (take-suc row column nan h)
          ∙ scaled_append window (take column row) (get_or row column nan ∷ [])
          ∙ ap (λ (l : List Float). scaled window (take column row) ++ l)
          (scaled_one window (get_or row column nan))

-- ---- row after row

module _ (k : Kernel) (p : Params) (window : Float) where
  abbrev pub mean : ℕ → List Float
  mean i = scaled window (mean_row (kernel_in_use k) p i)

  abbrev pub pair : ℕ → ℕ → List Float
  pair i j = scaled window (pair_row (kernel_in_use k) p i j)

  length_mean : (i : ℕ) → length (mean i) ≡ dimension k.n
  unfolding mean_row
  length_mean i =
      length_scaled window (mean_row (kernel_in_use k) p i) ∙ length_tabulate (dimension k.n) _

  length_pair : (i j : ℕ) → length (pair i j) ≡ dimension k.n
  unfolding pair_row
  length_pair i j =
      length_scaled window (pair_row (kernel_in_use k) p i j) ∙ length_tabulate (dimension k.n) _

  abbrev dim : ℕ
  dim = dimension k.n

  -- a row that was stored is the one that is meant
  stored :
      {at : ℕ} (row : List Float) {meant x y : List Float}
      → Appended at (scaled window (take dim row)) x y → take (dimension k.n) row ≡ meant
      → Appended at (scaled window meant) x y
  stored {at} row {meant} {x} {y} h e =
      subst (λ (l : List Float). Appended at (scaled window l) x y) e h

  pub means_more :
      (i : ℕ) (row : List Float) {x y z : List Float} → Appended 0 (joined mean i) x y
      → take (dimension k.n) row ≡ mean_row (kernel_in_use k) p i
      → Appended (i * dim) (scaled window (take dim row)) y z
      → Appended 0 (joined mean (i + 1)) x z
  means_more i row h e l =
      joined_more mean h (stored row l e)
      (omega (arith, length_joined (dimension k.n) mean i length_mean))

  pub pairs_more :
      (i j number : ℕ) (row : List Float) {x y z : List Float}
      → Appended (pair_at k.n i i * dim) (pairs_of_row pair i (j - i)) x y → i ≤ j
      → number ≡ pair_at k.n i j → take (dimension k.n) row ≡ pair_row (kernel_in_use k) p i j
      → Appended (number * dim) (scaled window (take dim row)) y z
      → Appended (pair_at k.n i i * dim) (pairs_of_row pair i (j + 1 - i)) x z
  unfolding pairs_of_row
  pairs_more i j number row {x} {y} {z} h within o e l =
      subst (λ (n : ℕ). Appended (first * dim) (joined (λ m. pair i (i + m)) n) x z) next
      (joined_more (λ m. pair i (i + m)) h (stored row l (e
      ∙ ap (pair_row (kernel_in_use k) p i) here))
      (ap (λ (r : ℕ). r * dim) (o ∙ pair_after k.n within)
      ∙ add-mul first (j - i) dim
      ∙ ap (λ (n : ℕ). first * dim + n)
      (sym (length_of_row (dimension k.n) pair length_pair i (j - i)))))
    where
      first : ℕ
      first = pair_at k.n i i

      next : j - i + 1 ≡ j + 1 - i
      next = omega arith

      here : j ≡ i + (j - i)
      here = omega arith

  pub all_pairs_more :
      (i : ℕ) {x y z : List Float} → Appended (k.n * dim) (pairs_of_rows pair k.n i) x y
      → Appended (pair_at k.n i i * dim) (pairs_of_row pair i (k.n - i)) y z
      → Appended (k.n * dim) (pairs_of_rows pair k.n (i + 1)) x z
  all_pairs_more i h l =
      rows_more pair k.n i h l
      (ap (λ (r : ℕ). r * dim) (first_pair k.n i)
      ∙ add-mul k.n (pairs_before k.n i) dim
      ∙ ap (λ (n : ℕ). k.n * dim + n)
      (sym (length_of_rows (dimension k.n) pair length_pair k.n i)))

  -- the whole, with the rows of the integral and of the constant
  pub generator_written :
      (variance : List Float) {v w x y z : List Float} → k.n ≤ 10
      → take (dimension k.n) variance ≡ variance_row (kernel_in_use k) p → length variance ≡ 67
      → Appended 0 (joined mean k.n) v w → Appended (k.n * dim) (pairs_of_rows pair k.n k.n) w x
      → Appended ((dim - 2) * dim) (scaled window (take dim variance)) x y
      → Appended ((dim - 1) * dim) (scaled window (take dim (replicate 67 plus_zero))) y z
      → take (dim * dim) z ≡ generator (kernel_in_use k) p window
  unfolding generator
  generator_written variance few e long a b c l =
      order_written (dimension k.n) k.n mean pair length_mean length_pair integral_long
      (length_scaled window (replicate (dimension k.n) plus_zero)
      ∙ length-replicate (dimension k.n) plus_zero) (dim * dim) a b
      refl (stored variance c e) (place integral_at_lem)
      (stored (replicate 67 plus_zero) l zeros) (place constant_at_lem)
      refl
      ∙ scaled_order window k.n (mean_row (kernel_in_use k) p) (pair_row (kernel_in_use k) p)
      (variance_row (kernel_in_use k) p) (replicate (dimension k.n) plus_zero)
    where
      most : dimension k.n ≤ 67
      most = dimension_most few

      integral_at_lem : dim - 2 ≡ integral_at k.n
      integral_at_lem = omega arith

      constant_at_lem : dim - 1 ≡ constant_at k.n
      constant_at_lem = omega arith

      place : {r s : ℕ} → r ≡ s → r * dim ≡ s * dimension k.n
      place h = ap (λ (m : ℕ). m * dim) h

      integral_long : length (scaled window (variance_row (kernel_in_use k) p)) ≡ dimension k.n
      integral_long =
          length_scaled window (variance_row (kernel_in_use k) p) ∙ ap length (sym e)
          ∙ length-take-le (dimension k.n) variance (omega (arith, most))

      zeros : take (dimension k.n) (replicate 67 plus_zero) ≡ replicate (dimension k.n) plus_zero
      zeros = take_replicate (dimension k.n) 67 most
