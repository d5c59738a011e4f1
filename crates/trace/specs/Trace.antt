-- A trace is one path over the whole schedule: its walk, what it comes to, and what it leaves in
-- its tables. Definitions only.
use Rattle.std.specs.Prelude.{List, ℕ, pred, ◌/◌, ◌%◌, length, get_or, Float}
use Rattle.std.specs.Prelude.{Result, Ok, Err}
use Rattle.std.proofs.Math.Option.{Option, none, some}
use Rattle.std.specs.Float.{nan}
use Rattle.numeric.specs.Table.{tabulate}
use Rattle.model.specs.declared.Simulation.{Simulation}
use Rattle.model.specs.declared.State.{State}
use Rattle.model.specs.Walk.{Walk, Stop, state_after, stop_within, unless_stopped}
use Rattle.trace.specs.declared.Stopped.{Stopped}

-- Rule 8.1: step k takes draw k
abbrev pub trace_walk : Simulation → List Float → Walk
trace_walk s draws = record { simulation = s; draw = λ k. get_or draws (pred k) nan }

-- Rule 8.2: the steps taken, or the step at which the path stops and what is not finite there
abbrev pub answer_of : ℕ → Option Stop → Result ℕ Stopped
answer_of total none = Ok total
answer_of total (some stop) = Err (record { step = stop.step; quantity = stop.quantity })

-- Rule 8.2: of the whole walk
unfoldable pub trace_answer : Walk → Result ℕ Stopped
unfolding stop_within
trace_answer w = let total = w.simulation.grid.total in answer_of total (stop_within w total)

-- Rule 8.3: spots, variances and z have an entry a point, factors n entries a point
pub record Tables : Type 0 where
  pub spots : List Float
  pub variances : List Float
  pub z : List Float
  pub factors : List Float

abbrev pub tables : List Float → List Float → List Float → List Float → Tables
tables spots variances z factors =
    record { spots = spots; variances = variances; z = z; factors = factors }

-- Rule 16.2: an entry of point k is written unless the path stops within its first k steps, and is
-- then as lent; of a table whose entry x is that of point `point x`
unfoldable pub table_after : Walk → (ℕ → ℕ) → (State → ℕ → Float) → List Float → List Float
unfolding tabulate stop_within state_after
table_after w point entry lent =
    tabulate (length lent)
    (λ x.
    unless_stopped (stop_within w (point x)) (entry (state_after w (point x)) x)
    (get_or lent x nan))

-- Rule 16.2: factor i of point k stands at k × n + i
abbrev pub tables_after : Walk → Tables → Tables
tables_after w lent =
    let n = w.simulation.kernel.n in
    record {
      spots = table_after w (λ x. x) (λ s x. s.spot) lent.spots;
      variances = table_after w (λ x. x) (λ s x. s.variance) lent.variances;
      z = table_after w (λ x. x) (λ s x. s.z) lent.z;
      factors = table_after w (λ x. x / n) (λ s x. get_or s.factors (x % n) nan) lent.factors;
    }
