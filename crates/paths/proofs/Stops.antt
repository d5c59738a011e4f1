-- Where a run stops, and which entries of the table that leaves. Assumes nothing.
use mathlib.Core.Path.{◌≡◌, refl, sym, ◌∙◌}
use mathlib.Core.Option.{Option, none, some}
use Prim.Native.Nat.{ℕ, suc, ◌<◌, ◌≤◌}
use native.Mathlib.Omega.{arith}
use lib.Ieee.{Float}
use Rattle.model.specs.TimeGrid.{last_step}
use Rattle.model.specs.Walk.{Stop, stop_within}
use Rattle.model.proofs.First.{first_more, first_stays, first_none, none_some}
use Rattle.walks.specs.Batch.{Batch, walk_of, observation}
use Rattle.paths.specs.Run.{RunStop, on_path, run_stop, entry_after}

abbrev pub run_stop_at : ℕ → Stop → RunStop
run_stop_at p x = record { path = p; stop = x }

module _ (b : Batch) where
  -- the stop of a path, if it has one
  abbrev stop_of : ℕ → Option RunStop
  stop_of q = on_path q (stop_within (walk_of b q) b.simulation.grid.total)

  -- a run goes on over a path that does not stop, and stops at one that does
  pub run_goes : (q : ℕ) → run_stop b q ≡ none
      → stop_within (walk_of b (suc q)) b.simulation.grid.total ≡ none → run_stop b (suc q) ≡ none
  unfolding run_stop
  run_goes q h e = first_more stop_of q h ∙ rw e

  pub run_stops : (q : ℕ) (x : Stop) → run_stop b q ≡ none
      → stop_within (walk_of b (suc q)) b.simulation.grid.total ≡ some x → (n : ℕ) → q < n
      → run_stop b n ≡ some (run_stop_at (suc q) x)
  unfolding run_stop
  run_stops q x h e n l = first_stays stop_of (suc q) n (run_stop_at (suc q) x) l
      (first_more stop_of q h ∙ rw e)

  pub run_none : (m n : ℕ) → m ≤ n → run_stop b n ≡ none → run_stop b m ≡ none
  unfolding run_stop
  run_none m n h e = first_none stop_of m n h e

  -- a run that goes on has no path that stops
  pub run_path : (q n : ℕ) → q < n → run_stop b n ≡ none
      → stop_within (walk_of b (suc q)) b.simulation.grid.total ≡ none
  run_path q n h e = go (stop_within (walk_of b (suc q)) b.simulation.grid.total) refl
    where
      go : (o : Option Stop) → stop_within (walk_of b (suc q)) b.simulation.grid.total ≡ o
          → stop_within (walk_of b (suc q)) b.simulation.grid.total ≡ none
      go none p = p
      go (some x) p =
          absurd (none_some _ (sym e ∙ run_stops q x (run_none q n (omega arith) e) p n h))

  -- the entries
  module _ (q j : ℕ) (lent : Float) where
    pub entry_new : run_stop b q ≡ none
        → stop_within (walk_of b (suc q)) (last_step b.simulation.grid j) ≡ none
        → entry_after b (suc q) j lent ≡ observation b (suc q) j
    unfolding entry_after
    entry_new h k = rw (h, k)

    pub entry_run : (x : RunStop) → run_stop b q ≡ some x → entry_after b (suc q) j lent ≡ lent
    unfolding entry_after
    entry_run x h = rw h

    pub entry_path : (x : Stop) → run_stop b q ≡ none
        → stop_within (walk_of b (suc q)) (last_step b.simulation.grid j) ≡ some x
        → entry_after b (suc q) j lent ≡ lent
    unfolding entry_after
    entry_path x h k = rw (h, k)
