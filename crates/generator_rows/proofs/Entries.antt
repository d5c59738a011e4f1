-- A row of the generator by its entries, and what an addition at a column makes of it. Assumes
-- nothing.
use mathlib.Core.Path.{◌≡◌, ap, ◌∙◌}
use mathlib.Core.List.{List}
use Prim.Native.Nat.{ℕ, ◌≤◌, ◌<◌}
use native.Mathlib.Decide.{ℕ_discrete}
use native.Mathlib.Omega.{arith}
use borrow.Author.Tests.{eq-eqb, ne_eqb}
use lib.ListN.{length, get_or, take, set, replicate, length-set, length-replicate, get_or-replicate}
use lib.Seq.{get_or-set_same, get_or-set_other}
use lib.Ieee.{Float, nan}
use Rattle.numeric.specs.Double.{plus, plus_zero}
use Rattle.numeric.specs.Table.{tabulate}
use Rattle.numeric.proofs.Tables.{take_is_tabulate}
use Rattle.generator_rows.specs.Rows.{added_at}

-- an array of 67 whose entry of each column is f's
pub record Entries (f : ℕ → Float) (row : List Float) : Type 0 where
  pub long : length row ≡ 67
  pub entry : (column : ℕ) → column < 67 → get_or row column nan ≡ f column

pub zeros : Entries (λ _. plus_zero) (replicate 67 plus_zero)
zeros =
    record {
      long = length-replicate 67 plus_zero;
      entry = λ column h. get_or-replicate 67 column
          plus_zero nan h;
    }

added_entry :
    (row : List Float) (at : ℕ) (v : Float) (column : ℕ) → at < length row
    → get_or (set row at (plus (get_or row at nan) v)) column nan
    ≡ added_at at v column (get_or row column nan)
unfolding added_at
added_entry row at v column h = go (ℕ_discrete column at)
  where
    go :
        Dec (column ≡ at) → get_or (set row at (plus (get_or row at nan) v)) column nan
        ≡ added_at at v column (get_or row column nan)
    go (yes e) = rw (eq-eqb column at e, e) (get_or-set_same row at _ nan h)
    go (no e) = rw (ne_eqb column at e) (get_or-set_other row at column _ nan e)

pub added :
    {f : ℕ → Float} {row row' : List Float} {at at' : ℕ} {v w : Float} → at < 67 → Entries f row
    → at' ≡ at → row' ≡ set row at' (plus (get_or row at' nan) v) → v ≡ w
    → Entries (λ column. added_at at w column (f column)) row'
added {f} {row} {row'} {at} {at'} {v} {w} h r o e same =
    record {
      long = ap length e ∙ length-set row at' _ ∙ r.long;
      entry =
          λ column l.
          ap (λ (x : List Float). get_or x column nan) e
          ∙ added_entry row at' v column (omega (arith, r.long))
          ∙ ap (λ (x : ℕ). added_at x v column (get_or row column nan)) o
          ∙ ap (λ (x : Float). added_at at x column (get_or row column nan)) same
          ∙ ap (added_at at w column) (r.entry column l);
    }

-- the first of its entries as a list
pub entries_are :
    {f : ℕ → Float} {row : List Float} (n : ℕ) → n ≤ 67 → Entries f row → take n row ≡ tabulate n f
entries_are {f} {row} n h r =
    take_is_tabulate nan n f row (omega (arith, r.long)) (λ i l. r.entry i (omega arith))
