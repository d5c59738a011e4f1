-- What stands in the state's order stands at its place. Assumes nothing.
use mathlib.Core.Path.{◌≡◌, refl, sym, ap, ◌∙◌, subst}
use mathlib.Core.List.{List, [], ◌∷◌, ◌++◌}
use Prim.Native.Nat.{ℕ, zero, suc, ◌+◌, ◌-◌, ◌≤◌, ◌<◌}
use native.Mathlib.Nat.{min_comm, max_comm, add-zero}
use native.Mathlib.Decide.{dec_le}
use native.Mathlib.Omega.{arith}
use lib.ListN.{length, get_or, length-append, get_or-append}
use lib.Seq.{get_or-append-add}
use lib.Ieee.{Float, nan}
use Rattle.numeric.specs.Double.{plus_zero}
use Rattle.model.specs.declared.Kernel.{Kernel}
use Rattle.model.specs.declared.Params.{Params}
use Rattle.generator_rows.specs.State.{pairs_before, joined, pairs_of_row, pairs_of_rows}
use Rattle.generator_rows.specs.State.{in_state_order, pair_at, integral_at, constant_at}
use Rattle.generator_rows.specs.Inner.Order.{InOrder}
use Rattle.generator_rows.specs.Rows.{mean_coefficient, pair_coefficient, constant_coefficient}
use Rattle.generator_rows.specs.Rows.{variance_row}
use Rattle.generator_rows.proofs.Pairs.{fewer_rows}
use Rattle.generator_rows.proofs.Places.{pair_up, dimension_is}
use Rattle.generator_rows.proofs.Appending.{length_singles, length_of_rows}

-- past the first of two lists
after :
    (a b : List Float) {n : ℕ} (k : ℕ) → length a ≡ n → get_or (a ++ b) (n + k) nan ≡ get_or b k nan
after a b k e =
    subst (λ (n : ℕ). get_or (a ++ b) (n + k) nan ≡ get_or b k nan) e (get_or-append-add a b k nan)

within :
    (a b : List Float) {n : ℕ} (k : ℕ) → length a ≡ n → k < n
    → get_or (a ++ b) k nan ≡ get_or a k nan
within a b k e h = get_or-append a b nan k (omega arith)

single_at : (f : ℕ → Float) (n i : ℕ) → i < n → get_or (joined (λ i. f i ∷ []) n) i nan ≡ f i
unfolding joined
single_at f zero i h = absurd (omega arith)
single_at f (suc n) i h = go (dec_le n i) (λ (b : i < n). single_at f n i b)
  where
    go :
        Dec (n ≤ i) → (i < n → get_or (joined (λ i. f i ∷ []) n) i nan ≡ f i)
        → get_or (joined (λ i. f i ∷ []) n ++ f n ∷ []) i nan ≡ f i
    go (yes l) earlier =
        let e : n ≡ i = omega arith in
        let last = after (joined (λ i. f i ∷ []) n) (f n ∷ []) 0 (length_singles f n) in
        subst (λ (k : ℕ). get_or (joined (λ i. f i ∷ []) n ++ f n ∷ []) k nan ≡ f k) e
        (subst (λ (k : ℕ). get_or (joined (λ i. f i ∷ []) n ++ f n ∷ []) k nan ≡ f n) (add-zero n)
        last)
    go (no l) earlier =
        let b : i < n = omega arith in
        within (joined (λ i. f i ∷ []) n) (f n ∷ []) i (length_singles f n) b ∙ earlier b

module _ (pair : ℕ → ℕ → Float) (n : ℕ) where
  abbrev one : ℕ → ℕ → List Float
  one i j = pair i j ∷ []

  rows_long : (r : ℕ) → length (pairs_of_rows one n r) ≡ pairs_before n r
  rows_long r = length_of_rows 1 one (λ i j. refl) n r ∙ omega arith

  row_before : {i r m : ℕ} → i < r → m < n - i → pairs_before n i + m < pairs_before n r
  unfolding pairs_before
  row_before {i} {r} {m} h b = omega (arith, fewer_rows n (suc i) r h)

  rows_at :
      (r i m : ℕ) → i < r → r ≤ n → m < n - i → get_or (pairs_of_rows one n r)
      (pairs_before n i + m) nan ≡ pair i (i + m)
  unfolding pairs_of_rows
  rows_at zero i m h l b = absurd (omega arith)
  rows_at (suc r) i m h l b =
      go (dec_le r i) (λ (before : i < r). rows_at r i m before (omega arith) b)
    where
      go :
          Dec (r ≤ i) → (i < r → get_or (pairs_of_rows one n r) (pairs_before n i + m) nan
          ≡ pair i (i + m)) → get_or (pairs_of_rows one n r ++ pairs_of_row one r (n - r))
          (pairs_before n i + m) nan ≡ pair i (i + m)
      go (yes a) earlier =
          let e : r ≡ i = omega arith in
          subst (λ (k : ℕ). get_or (pairs_of_rows one n r ++ pairs_of_row one r (n - r))
          (pairs_before n k + m) nan ≡ pair k (k + m)) e
          (after (pairs_of_rows one n r) (pairs_of_row one r (n - r)) m (rows_long r)
          ∙ single_at (λ m. pair r (r + m)) (n - r) m (omega arith))
      go (no a) earlier =
          let before : i < r = omega arith in
          within (pairs_of_rows one n r) (pairs_of_row one r (n - r)) (pairs_before n i + m)
          (rows_long r) (row_before before b) ∙ earlier before

module _ (n : ℕ) (mean : ℕ → Float) (pair : ℕ → ℕ → Float) (integral constant : Float) where
  abbrev row : List Float
  row = in_state_order n (λ i. mean i ∷ []) (λ i j. pair i j ∷ []) (integral ∷ []) (constant ∷ [])

  abbrev means : List Float
  means = joined (λ i. mean i ∷ []) n

  abbrev pairs : List Float
  pairs = pairs_of_rows (one pair n) n n

  front_long : length (means ++ pairs) ≡ integral_at n
  front_long = length-append means pairs ∙ omega (arith, length_singles mean n, rows_long pair n n)

  most_long : length (means ++ pairs ++ integral ∷ []) ≡ constant_at n
  most_long = length-append (means ++ pairs) (integral ∷ []) ∙ omega (arith, front_long)

  -- what stands before the constant, and before the integral
  in_most :
      (k : ℕ) → k < constant_at n → get_or row k nan
      ≡ get_or (means ++ pairs ++ integral ∷ []) k nan
  unfolding in_state_order
  in_most k h = within (means ++ pairs ++ integral ∷ []) (constant ∷ []) k most_long h

  in_front : (k : ℕ) → k < integral_at n → get_or row k nan ≡ get_or (means ++ pairs) k nan
  in_front k h = in_most k (omega arith) ∙ within (means ++ pairs) (integral ∷ []) k front_long h

  in_order : InOrder n mean pair integral constant row
  unfolding in_state_order
  in_order =
      record {
        mean_at =
            λ i h. in_front i (omega arith) ∙ within means pairs i (length_singles mean n) h
            ∙ single_at mean n i h;
        pair_place = λ i j h l. at i j h l;
        same_pair = λ i j. rw (min_comm j i, max_comm j i);
        integral_place = in_most (integral_at n) (omega arith) ∙ last (means ++ pairs) front_long;
        constant_place = last (means ++ pairs ++ integral ∷ []) most_long;
        long =
            length-append (means ++ pairs ++ integral ∷ []) (constant ∷ [])
            ∙ omega (arith, most_long);
        dimension_is = dimension_is n;
      }
    where
      last : {x : Float} {k : ℕ} (a : List Float) → length a ≡ k → get_or (a ++ x ∷ []) k nan ≡ x
      last {x} {k} a e =
          subst (λ (m : ℕ). get_or (a ++ x ∷ []) m nan ≡ x) (add-zero k) (after a (x ∷ []) 0 e)

      at : (i j : ℕ) → i ≤ j → j < n → get_or row (pair_at n i j) nan ≡ pair i j
      at i j h l =
          let m : i + (j - i) ≡ j = omega arith in
          let e : pair_at n i j ≡ n + (pairs_before n i + (j - i)) = sym (pair_up n h)
          ∙ omega arith in
          ap (λ (k : ℕ). get_or row k nan) e
          ∙ in_front (n + (pairs_before n i + (j - i)))
          (omega (arith, row_before pair n {i = i} {r = n} {m = j - i} (omega arith) (omega arith)))
          ∙ after means pairs (pairs_before n i + (j - i)) (length_singles mean n)
          ∙ rows_at pair n n i (j - i) (omega arith) (omega arith) (omega arith)
          ∙ ap (pair i) m

-- so it is of E[V]
pub variance_in_order : (k : Kernel) (p : Params)
    → InOrder k.n (mean_coefficient k p) (pair_coefficient k p) plus_zero (constant_coefficient p)
    (variance_row k p)
unfolding variance_row
variance_in_order k p =
    in_order k.n (mean_coefficient k p) (pair_coefficient k p) plus_zero (constant_coefficient p)
