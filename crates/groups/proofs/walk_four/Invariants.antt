-- `groups::walk_four` meets its contract. Assumes nothing.
use Prim.Native.Nat.{ℕ}
use mathlib.Core.Bool.{Bool}
use mathlib.Core.List.{List}
use lib.ListN.{get_or}
use lib.Ieee.{Float, nan}
use Rattle.model.specs.declared.Kernel.{Kernel}
use Rattle.model.specs.declared.Params.{Params}
use Rattle.model.specs.declared.TimeGrid.{TimeGrid}
use Rattle.model.specs.declared.State.{State}
use Rattle.model.specs.Inner.Rates.{RatesOf}
use Rattle.lanes.specs.Inner.Lanes.{lane_of}
use Rattle.model.specs.Inner.InUse.{grid_in_use}
use Rattle.model.specs.Inner.InUse.{kernel_in_use}
use Rattle.walks.specs.declared.Observation.{Observation}
use Rattle.walks.specs.Batch.{Batch, draw_of}
use Rattle.walks.specs.Inner.Handed.{observed_of, observe_by}
use Rattle.groups.proofs.Beside.{Beside}
use Rattle.groups.proofs.walk_four.Given as goal

-- the batch, but for its start
abbrev pub side_batch : Kernel → Params → State → TimeGrid → Observation → Bool → ℕ → List Float → Batch
side_batch k p start sched observation mirrored paths draws =
    record {
      simulation = record { kernel = kernel_in_use k; params = p; start = start; grid = grid_in_use sched };
      observed = observed_of observation;
      observe = observe_by observation;
      mirrored = mirrored;
      paths = paths;
      draw = draw_of mirrored draws sched.total;
    }

abbrev pub invariant-loop-at : goal.invariant-loop-at
invariant-loop-at l =
    ((paths : ℕ) → Beside (side_batch l.k l.p (lane_of l.k.n l.initial.s l.initial.factors 0) l.sched l.batch.observation l.batch.mirrored paths l.draws) l.k.n l.path l.segment l.at l.s l.factors l.rows)
    × RatesOf l.k (get_or l.sched.dt l.segment nan) (get_or l.sched.sqrt_dt l.segment nan) l.rates
