-- What the functions of the paths are handed and promise. Definitions only.
use Rattle.std.specs.Prelude.{◌≡◌, Bool, true, List, ℕ, suc, length, get_or, Float}
use Rattle.std.specs.Prelude.{◌+◌, ◌*◌, ◌%◌, ◌≤◌, ◌<◌}
use Rattle.std.specs.Prelude.{Result, Ok, Err, Some, None, Option as Optional}
use Rattle.std.proofs.Math.Option.{Option, none, some}
use Rattle.std.specs.Float.{nan}
use Rattle.refusal.specs.declared.Quantity.{Quantity}
use Rattle.refusal.specs.declared.Refusal.TheVariants.{NonFinite}
use Rattle.model.specs.Inner.InUse.{simulation_in_use}
use Rattle.model.specs.Inner.Laid.{Laid}
use Rattle.model.specs.Inner.Admitted.{Admitted}
use Rattle.model.specs.Walk.{stop_within}
use Rattle.walks.specs.declared.Batch.{Batch as Handed}
use Rattle.walks.specs.declared.Observed.{Observed}
use Rattle.walks.specs.Inner.Handed.{factors_read, batch_of}
use Rattle.walks.specs.Batch.{Batch, walk_of, draws_needed, non_positive_paths, observation}
use Rattle.estimates.specs.declared.Payoff.{Payoff}
use Rattle.estimates.specs.Inner.Tally.{no_paths, tally_of}
use Rattle.tally.specs.Inner.Rows.{with_rows, fallen_among, tally_in}
use Rattle.paths.specs.declared.Walked.{Walked}
use Rattle.paths.specs.declared.Refused.{Refused}
use Rattle.paths.specs.Run.{RunStop, run_stop, steps_at, refusal_at, table_after}

-- what 19, 28, 20 and 21 leave, and the questions before them: an admitted simulation, a schedule
-- laid end to end, and a form in no more factors than there are
pub record Prepared (b : Handed) (draws observations : List Float) : Type 0 where
  pub admitted : Admitted (simulation_in_use b.simulation)
  pub form : factors_read b.observation ≤ b.simulation.kernel.n
  pub laid : Laid b.simulation.grid
  pub most : b.paths ≤ 65536
  pub pairs : b.mirrored ≡ true → b.paths % 2 ≡ 0
  pub drawn : length draws ≡ draws_needed b.mirrored b.paths b.simulation.grid.total
  pub rows : length observations ≡ b.paths * b.simulation.grid.count

-- ---- what the paths that have ended come to

abbrev pub nothing_walked : Bool → Walked
nothing_walked mirrored = record { non_positive = 0; steps = 0; tally = no_paths mirrored }

-- with paths more, by the first rows and the lowest spots of these
abbrev pub with_ended : Walked → Payoff → Observed → List Float → ℕ → List Float → Walked
with_ended w payoff observed rows count lowest =
    record {
      non_positive = w.non_positive + fallen_among lowest (length lowest);
      steps = w.steps;
      tally = with_rows w.tally payoff observed rows count lowest (length lowest);
    }

-- the first `path` paths of a batch have ended, and come to this
pub record Ended (b : Batch) (payoff : Payoff) (path : ℕ) (w : Walked) : Type 0 where
  pub counted : w.steps ≡ path * b.simulation.grid.total
  pub fallen : w.non_positive ≡ non_positive_paths b path
  pub few : w.non_positive ≤ path
  pub tallied : w.tally ≡ tally_in b payoff path

-- ---- a group of four paths

-- what the walk of paths path + 1 to path + 4 is handed: a batch that has them, and what the paths
-- before come to
pub record GroupReady (b : Handed) (payoff : Payoff) (path : ℕ) (w : Walked)
    (draws observations : List Float) : Type 0 where
  pub prepared : Prepared b draws observations
  pub within : path + 4 ≤ b.paths
  pub ended : Ended (batch_of b draws) payoff path w

-- they do not stop, `w` is what the paths come to with them, and `after` is `before` with their
-- observations
pub record GroupWalked (b : Batch) (payoff : Payoff) (path : ℕ) (before after : List Float)
    (w : Walked) : Type 0 where
  pub going : (l : ℕ) → l < 4
      → stop_within (walk_of b (suc (path + l))) b.simulation.grid.total ≡ none
  pub ended : Ended b payoff (path + 4) w
  pub long : length after ≡ length before
  pub front : (x : ℕ) → x < path * b.simulation.grid.count
      → get_or after x nan ≡ get_or before x nan
  pub seen : (q j : ℕ) → path ≤ q → q < path + 4 → j < b.simulation.grid.count
      → get_or after (q * b.simulation.grid.count + j) nan ≡ observation b (suc q) (suc j)
  pub back : (x : ℕ) → (path + 4) * b.simulation.grid.count ≤ x
      → get_or after x nan ≡ get_or before x nan

-- the same where the four are walked; where it is not sure, the table is as it was
abbrev pub Grouped : Batch → Payoff → ℕ → List Float → List Float → Optional Walked → Type 0
Grouped b payoff path before after (Some w) = GroupWalked b payoff path before after w
Grouped b payoff path before after None = after ≡ before

-- ---- the run

-- it stops after step `step` of path `path` + 1, with so many steps taken
abbrev pub stopped_at : ℕ → ℕ → Quantity → ℕ → Refused
stopped_at path step quantity steps =
    record { refusal = NonFinite (path + 1) step quantity steps; steps = steps }

-- what its paths come to where it goes through
abbrev pub walked_of : Batch → Payoff → Walked
walked_of b payoff =
    record {
      non_positive = non_positive_paths b b.paths;
      steps = b.paths * b.simulation.grid.total;
      tally = tally_in b payoff b.paths;
    }

abbrev pub run_at : Batch → Payoff → Option RunStop → Result Walked Refused
run_at b payoff none = Ok (walked_of b payoff)
run_at b payoff (some s) = Err (record { refusal = refusal_at b s; steps = steps_at b s })

unfoldable pub run_answer : Batch → Payoff → Result Walked Refused
unfolding run_stop non_positive_paths tally_of
run_answer b payoff = run_at b payoff (run_stop b b.paths)

pub record BatchRun (b : Batch) (payoff : Payoff) (lent after : List Float)
    (r : Result Walked Refused) : Type 0 where
  pub answer : r ≡ run_answer b payoff
  pub table : after ≡ table_after b lent
