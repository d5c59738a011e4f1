-- A group of four paths: from what the walk side by side leaves in its own rows to what the group
-- leaves in the table and the tally, and four paths further in the outer loop. Assumes nothing.
use mathlib.Core.Path.{◌≡◌, sym, ap, ◌∙◌, subst}
use mathlib.Core.List.{List}
use mathlib.Core.Logic.{⊎_elim}
use mathlib.Core.Option.{none}
use Prim.Native.Nat.{ℕ, zero, suc, pred, ◌+◌, ◌*◌, ◌-◌, ◌<◌, ◌≤◌}
use native.Mathlib.Nat.{add-zero, add-mul, add_assoc, mul-le-mul, mul-le-mul_right}
use native.Mathlib.Omega.{arith}
use lib.Ieee.{Float, nan}
use lib.ListN.{get_or, length, take}
use lib.Seq.{get_or-take, length-take-le}
use Rattle.model.specs.Inner.Admitted.{Admitted}
use Rattle.model.proofs.First.{split}
use Rattle.walks.specs.Batch.{Batch, observation}
use Rattle.estimates.specs.declared.Payoff.{Payoff}
use Rattle.paths.specs.declared.Walked.{Walked}
use Rattle.paths.specs.Run.{run_stop}
use Rattle.tally.specs.Inner.Rows.{last_observation, fallen_among}
use Rattle.paths.specs.Inner.Handed.{with_ended, Ended, GroupWalked}
use Rattle.groups.specs.Inner.Group.{FourWalked, Copied}
use Rattle.walks.proofs.Cells.{row_below}
use Rattle.paths.proofs.Stops.{run_goes}
use Rattle.paths.proofs.Turns.{Outer, with_steps}
use Rattle.tally.proofs.Tallying.{rows_tallied, fallen_few, fallen_more}

-- the numbers of a group are small
pub record SmallGroup (path total count length_seen : ℕ) : Type 0 where
  pub steps : path * total + 4 * total ≤ 268435456
  pub cells : path * count + 4 * count ≤ length_seen
  pub cells_small : path * count + 4 * count ≤ 4194304
  pub rows : 4 * count ≤ 256

pub small_group : (paths path total count long : ℕ) → paths ≤ 65536 → total ≤ 4096 → count ≤ 64
    → path + 4 ≤ paths → long ≡ paths * count → SmallGroup path total count long
small_group paths path total count long p t c h e =
    record {
      steps = omega (arith, add-mul path 4 total, mul-le-mul_right total h, mul-le-mul p t);
      cells = omega (arith, add-mul path 4 count, mul-le-mul_right count h);
      cells_small = omega (arith, add-mul path 4 count, mul-le-mul_right count h, mul-le-mul p c);
      rows = omega arith;
    }

-- the rows of the walk, copied to the table
module _ {b : Batch} {path : ℕ} {rows lowest seen seen' : List Float}
    (w : FourWalked b path rows lowest) (long : 4 * b.simulation.grid.count ≤ length rows)
    (copied : Copied (take (4 * b.simulation.grid.count) rows) (path * b.simulation.grid.count) seen
    seen') where
  abbrev count : ℕ
  count = b.simulation.grid.count

  part : length (take (4 * count) rows) ≡ 4 * count
  part = length-take-le (4 * count) rows long

  cell : (l j : ℕ) → l < 4 → j < count → get_or seen' (path * count + (l * count + j)) nan
      ≡ observation b (suc (path + l)) (suc j)
  cell l j k m =
      let within : l * count + j < 4 * count = row_below l 4 count j k m in
      copied.new (l * count + j) (omega (arith, part))
      ∙ get_or-take (4 * count) rows (l * count + j) nan within ∙ w.seen l j k m

  new : (q j : ℕ) → path ≤ q → q < path + 4 → j < count → get_or seen' (q * count + j) nan
      ≡ observation b (suc q) (suc j)
  new q j z l m =
      let i = q - path in
      let e : path + i ≡ q = omega arith in
      subst (λ (x : ℕ). get_or seen' (x * count + j) nan ≡ observation b (suc x) (suc j)) e
      (ap (λ (x : ℕ). get_or seen' x nan) (ap (λ (x : ℕ). x + j) (add-mul path i count)
      ∙ add_assoc (path * count) (i * count) j) ∙ cell i j (omega arith) m)

  -- the last entries of the rows are what the paths show the payoff
  last_entry : 1 ≤ count → (l : ℕ) → l < 4 → last_observation rows count (suc l)
      ≡ observation b (suc (path + l)) count
  last_entry some l k =
      let last : suc (pred count) ≡ count = omega arith in
      w.seen l (pred count) k (omega arith) ∙ ap (observation b (suc (path + l))) last

  pub group_walked :
      Admitted b.simulation → 1 ≤ count → length lowest ≡ 4 → {payoff : Payoff} {w' : Walked}
      → Ended b payoff path w'
      → GroupWalked b payoff path seen seen'
      (with_steps (with_ended w' payoff b.observed rows count lowest)
      (w'.steps + 4 * b.simulation.grid.total))
  group_walked admitted some four {payoff} {w'} before =
      record {
        going = w.going;
        ended =
            rw four
            (record {
              counted = omega (arith, before.counted, add-mul path 4 b.simulation.grid.total);
              fallen =
                  ap (◌+ fallen_among lowest 4) before.fallen
                  ∙ sym (fallen_more b admitted path lowest 4 w.going w.least);
              few = omega (arith, before.few, fallen_few lowest 4);
              tallied =
                  rows_tallied b payoff path rows lowest 4 before.tallied (last_entry some) w.least;
            });
        long = copied.long;
        front = copied.front;
        seen = new;
        back = λ x l. copied.back x (omega (arith, part, add-mul path 4 count));
      }

-- the outer loop goes four paths further
module _
    {b : Batch} {payoff : Payoff} {lent seen seen' : List Float} {path : ℕ} {w₀ w₄ : Walked}
    (o : Outer b payoff lent seen path w₀) (h : path + 4 ≤ b.paths)
    (w : GroupWalked b payoff path seen seen' w₄)
  where
    going : (m : ℕ) → m ≤ 4 → run_stop b (path + m) ≡ none
    going zero l = ap (run_stop b) (add-zero path) ∙ o.going
    going (suc m) l =
        let e : path + suc m ≡ suc (path + m) = omega arith in
        ap (run_stop b) e ∙ run_goes b (path + m) (going m (omega arith)) (w.going m (omega arith))

    pub path_four : Outer b payoff lent seen' (path + 4) w₄
    path_four =
        let count = b.simulation.grid.count in
        record {
          most = h;
          going = going 4 (omega arith);
          ended = w.ended;
          long = w.long ∙ o.long;
          done = λ q j l m.
              ⊎_elim (λ (z : q < path). w.front _ (row_below q path count j z m) ∙ o.done q j z m)
              (λ (z : path ≤ q). w.seen q j z l m) (split q path);
          rest = λ x l. w.back x l ∙ o.rest x (omega (arith, add-mul path 4 count));
        }
