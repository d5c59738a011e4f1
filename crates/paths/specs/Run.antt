-- A run of a batch: where it stops, the steps it takes, and what it leaves in the table of
-- observations. Definitions only.
use Rattle.std.specs.Prelude.{List, ℕ, suc, pred, ◌+◌, ◌*◌, ◌/◌, ◌%◌, length, get_or, Float}
use Rattle.std.proofs.Math.Option.{Option, none, some}
use Rattle.std.specs.Float.{nan}
use Rattle.numeric.specs.Table.{tabulate}
use Rattle.refusal.specs.declared.Refusal.{Refusal}
use Rattle.refusal.specs.declared.Refusal.TheVariants.{NonFinite}
use Rattle.model.specs.TimeGrid.{last_step}
use Rattle.model.specs.First.{first_some, or_else}
use Rattle.model.specs.Walk.{Stop, stop_within, unless_stopped}
use Rattle.walks.specs.Batch.{Batch, walk_of, observation}

-- Rule 9.5: the path that stops the batch, and its stop
pub record RunStop : Type 0 where
  pub path : ℕ
  pub stop : Stop

-- Rule 9.5: a stop of path p, if it has one
abbrev pub on_path : ℕ → Option Stop → Option RunStop
on_path p none = none
on_path p (some s) = some (record { path = p; stop = s })

-- Rule 9.5: the first stop among the first n paths
unfoldable pub run_stop : Batch → ℕ → Option RunStop
unfolding first_some stop_within
run_stop b n =
    first_some (λ p. on_path p (stop_within (walk_of b p) b.simulation.grid.total)) n

-- Rule 9.6: the steps taken, the failing one included
abbrev pub steps_at : Batch → RunStop → ℕ
steps_at b s = pred s.path * b.simulation.grid.total + s.stop.step

-- Rule 9.8: a stop is 22
abbrev pub refusal_at : Batch → RunStop → Refusal
refusal_at b s = NonFinite s.path s.stop.step s.stop.quantity (steps_at b s)

-- Rule 16.3: the observation of path p at the end of segment j where no earlier path stops, nor
-- this one up to the segment's last step; else what was lent
unfoldable pub entry_after : Batch → ℕ → ℕ → Float → Float
unfolding run_stop stop_within observation
entry_after b p j lent =
    unless_stopped
    (or_else (run_stop b (pred p))
    (on_path p (stop_within (walk_of b p) (last_step b.simulation.grid j))))
    (observation b p j) lent

-- Rule 16.3: a row a path, a column a segment
unfoldable pub table_after : Batch → List Float → List Float
unfolding tabulate entry_after
table_after b lent =
    let count = b.simulation.grid.count in
    tabulate (length lent)
    (λ x. entry_after b (suc (x / count)) (suc (x % count)) (get_or lent x nan))
