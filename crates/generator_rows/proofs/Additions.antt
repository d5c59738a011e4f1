-- The additions that make a row of the generator, one after the other. Assumes nothing.
use mathlib.Core.Path.{◌≡◌, refl, sym, ap, ◌∙◌, subst}
use mathlib.Core.List.{List, [], ◌∷◌}
use mathlib.Core.Bool.{cond}
use Prim.Native.Nat.{ℕ, ◌+◌, ◌≤◌, ◌<◌}
use native.Mathlib.Numerals.{add-one}
use native.Mathlib.Omega.{arith}
use borrow.Author.Tests.{eq-eqb, ne_eqb}
use lib.Dec.{eqb}
use lib.ListN.{length, get_or, take, set}
use lib.Seq.{get_or-take}
use lib.Ieee.{Float, nan, neg}
use Rattle.numeric.specs.Double.{plus, times, one, two, plus_zero}
use Rattle.model.specs.declared.Kernel.{Kernel}
use Rattle.model.specs.declared.Params.{Params}
use Rattle.model.specs.Inner.InUse.{kernel_in_use}
use Rattle.generator_rows.specs.State.{dimension, pair_at}
use Rattle.generator_rows.specs.Rows.{weight, discount, mean_coefficient, pair_coefficient}
use Rattle.generator_rows.specs.Rows.{mean_reversion, mean_entry, mean_row, drift_entry}
use Rattle.generator_rows.specs.Rows.{variance_row, pair_row}
use Rattle.numeric.proofs.Tables.{take_is_tabulate}
use Rattle.generator_rows.proofs.Places.{dimension_most, pair_most}
use Rattle.generator_rows.proofs.Entries.{Entries, added, entries_are}

-- a row with a value added at a column
abbrev pub with_added : List Float → ℕ → Float → List Float
with_added row at v = set row at (plus (get_or row at nan) v)

-- a pair of one factor counts once, and one of two factors twice
pub once : {i j : ℕ} → i ≡ j → one ≡ cond (eqb i j) one two
once {i} {j} e = rw (eq-eqb i j e)

pub twice : {i j : ℕ} → (i ≡ j → ⊥) → two ≡ cond (eqb i j) one two
twice {i} {j} d = rw (ne_eqb i j d)

module _ (k : Kernel) (p : Params) where
  -- ---- of the tables only the first n are in use
  weight_in_use : {i : ℕ} → i < k.n → weight k i ≡ weight (kernel_in_use k) i
  weight_in_use {i} h = sym (get_or-take k.n k.weights i nan h)

  discount_in_use : {i : ℕ} → i < k.n → discount k i ≡ discount (kernel_in_use k) i
  discount_in_use {i} h = sym (get_or-take k.n k.discounts i nan h)

  reversion_in_use :
      {i : ℕ} → i < k.n → times (neg p.lambda) (weight k i) ≡ mean_reversion (kernel_in_use k) p i
  unfolding mean_reversion
  reversion_in_use h = rw (weight_in_use h)

  -- ---- E[V]
  pub mean_coefficient_lem :
      {i : ℕ} → i < k.n → times (times (times (neg two) p.a) p.b) (weight k i) ∷ []
      ≡ mean_coefficient (kernel_in_use k) p i ∷ []
  unfolding mean_coefficient
  mean_coefficient_lem h = rw (weight_in_use h)

  pub pair_coefficient_lem :
      {x : Float} {i j : ℕ} → i < k.n → j < k.n → x ≡ cond (eqb i j) one two
      → times (times (times x p.a) (weight k i)) (weight k j) ∷ []
      ≡ pair_coefficient (kernel_in_use k) p i j ∷ []
  unfolding pair_coefficient
  pair_coefficient_lem h l e = rw (e, weight_in_use h, weight_in_use l)

  module _ (few : k.n ≤ 10) where
    -- ---- the row of mean i
    module _ {i : ℕ} (h : i < k.n) {row : List Float} where
      pub mean_first :
          {row' : List Float} → Entries (λ _. plus_zero) row
          → row' ≡ with_added row i (neg (discount k i))
          → Entries (λ column. mean_entry (kernel_in_use k) p i column 0) row'
      unfolding mean_entry
      mean_first r e = added (omega arith) r refl e (ap neg (discount_in_use h))

      pub mean_next :
          {m : ℕ} {row' : List Float} → m < k.n
          → Entries (λ column. mean_entry (kernel_in_use k) p i column m) row
          → row' ≡ with_added row m (times (neg p.lambda) (weight k m))
          → Entries (λ column. mean_entry (kernel_in_use k) p i column (m + 1)) row'
      unfolding mean_entry
      mean_next {m} l r e = rw (add-one m) (added (omega arith) r refl e (reversion_in_use l))

      pub mean_all :
          {m : ℕ} → m ≡ k.n → Entries (λ column. mean_entry (kernel_in_use k) p i column m) row
          → take (dimension k.n) row ≡ mean_row (kernel_in_use k) p i
      unfolding mean_row
      mean_all e r =
          entries_are (dimension k.n) (dimension_most few)
          (subst (λ (m : ℕ). Entries (λ column. mean_entry (kernel_in_use k) p i column m) row) e r)

    -- ---- the row of the pair (i, j), without E[V]
    module _ {i j : ℕ} (h : i < k.n) (l : j < k.n) where
      pub drift_first :
          {row row' : List Float} {own : ℕ} → Entries (λ _. plus_zero) row → own ≡ pair_at k.n i j
          → row' ≡ with_added row own (neg (plus (discount k i) (discount k j)))
          → Entries (λ column. drift_entry (kernel_in_use k) p i j column 0) row'
      unfolding drift_entry
      drift_first r o e =
          added (pair_most few h l) r o e
          (ap (λ (x : Float). neg (plus x (discount k j))) (discount_in_use h)
          ∙ ap (λ (x : Float). neg (plus (discount (kernel_in_use k) i) x)) (discount_in_use l))

      pub drift_next :
          {m left right : ℕ} {row row' row'' : List Float} → m < k.n
          → Entries (λ column. drift_entry (kernel_in_use k) p i j column m) row
          → left ≡ pair_at k.n m j → row' ≡ with_added row left (times (neg p.lambda) (weight k m))
          → right ≡ pair_at k.n i m → row'' ≡ with_added row' right
          (times (neg p.lambda) (weight k m)) → Entries
          (λ column. drift_entry (kernel_in_use k) p i j column (m + 1)) row''
      unfolding drift_entry
      drift_next {m} b r o e o' e' =
          rw (add-one m)
          (added (pair_most few h b) (added (pair_most few b l) r o e (reversion_in_use b)) o' e'
          (reversion_in_use b))

      pub drift_all :
          {m : ℕ} {row : List Float} → m ≡ k.n
          → Entries (λ column. drift_entry (kernel_in_use k) p i j column m) row → (column : ℕ)
          → column < dimension k.n → get_or row column nan
          ≡ drift_entry (kernel_in_use k) p i j column k.n
      drift_all e r column b =
          r.entry column (omega (arith, dimension_most few))
          ∙ ap (drift_entry (kernel_in_use k) p i j column) e

  -- ---- and the whole of it: eta² × E[V] added at every column
  pub pair_all :
      (i j : ℕ) (variance drift row : List Float) → length row ≡ 67 → k.n ≤ 10
      → take (dimension k.n) variance ≡ variance_row (kernel_in_use k) p
      → ((column : ℕ) → column < dimension k.n
      → get_or drift column nan ≡ drift_entry (kernel_in_use k) p i j column k.n)
      → ((column : ℕ) → column < dimension k.n
      → get_or row column nan ≡ plus (get_or drift column nan)
      (times (times p.eta p.eta) (get_or variance column nan)))
      → take (dimension k.n) row ≡ pair_row (kernel_in_use k) p i j
  unfolding pair_row
  pair_all i j variance drift row long few e h l =
      take_is_tabulate nan (dimension k.n) _ row (omega (arith, dimension_most few))
      (λ column b.
      l column b
      ∙ ap (λ (x : Float). plus x (times (times p.eta p.eta) (get_or variance column nan)))
      (h column b)
      ∙ ap (λ (x : Float). plus (drift_entry (kernel_in_use k) p i j column k.n)
      (times (times p.eta p.eta) x))
      (sym (get_or-take (dimension k.n) variance column nan b)
      ∙ ap (λ (v : List Float). get_or v column nan) e))
