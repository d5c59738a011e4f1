-- The trace call: its questions, its answer and its tables, for all inputs. Definitions only.
use Rattle.std.specs.Prelude.{◌≡◌, Bool, ◌&&◌, List, [], ◌∷◌, ◌++◌, ℕ, ◌+◌, ◌*◌, eqb, length, Float}
use Rattle.std.specs.Prelude.{Result, Ok, Err}
use Rattle.refusal.specs.declared.Refusal.{Refusal}
use Rattle.refusal.specs.declared.Refusal.TheVariants as no
use Rattle.refusal.specs.Refusal.{number_of, no_place, place_of}
use Rattle.refusal.specs.Questions.{Question, ask, first_no, once_asked, written_once_asked}
use Rattle.model.specs.TimeGrid.{grid_of}
use Rattle.model.specs.Parameters.{start_of}
use Rattle.model.specs.Simulation.{Given, simulation_of}
use Rattle.model.specs.Walk.{Walk}
use Rattle.admission.specs.Questions.{model_questions}
use Rattle.trace.specs.declared.Stopped.{Stopped}
use Rattle.trace.specs.declared.Lengths.{Lengths}
use Rattle.trace.specs.declared.Tracing.{Tracing}
use Rattle.trace.specs.Trace.{Tables, trace_walk, trace_answer, tables_after}

-- Rule 15.2: a model and its draws
pub record TraceInputs : Type 0 where
  pub given : Given
  pub draws : List Float

abbrev pub trace_inputs : Given → List Float → TraceInputs
trace_inputs given draws = record { given = given; draws = draws }

-- Rule 8.1: its walk
abbrev pub walk_of : TraceInputs → Walk
walk_of i = trace_walk (simulation_of i.given) i.draws

-- ---- its questions

-- Rule 15.2: how long the lent tables are
abbrev pub lengths : Tables → Lengths
lengths t =
    record {
      spots = length t.spots;
      variances = length t.variances;
      z = length t.z;
      factors = length t.factors;
    }

-- Rule 15.2: 21, of a trace of so many points with n factors
abbrev pub lengths_right : ℕ → ℕ → Lengths → Bool
lengths_right points n lent =
    eqb lent.spots points
    && (eqb lent.variances points
    && (eqb lent.z points && eqb lent.factors (points * n)))

-- Rule 15.2: 20, a draw a step; 21, the lent tables as long as N + 1 points are
abbrev pub table_questions : ℕ → ℕ → ℕ → Lengths → List Question
table_questions steps n drawn lent =
    ask no.Draws (eqb drawn steps)
    ∷ ask no.Lengths (lengths_right (steps + 1) n lent)
    ∷ []

-- Rule 15.2: those of the model, then these
unfoldable pub trace_questions : TraceInputs → Tables → List Question
unfolding model_questions start_of grid_of
trace_questions i lent =
    let s = simulation_of i.given in
    model_questions i.given
    ++ table_questions s.grid.total s.kernel.n (length i.draws) (lengths lent)

-- ---- its answer

-- Rule 17.1: number and place of a refusal, with the steps taken by then
abbrev pub refused_after : ℕ → Refusal → Tracing
refused_after steps refusal =
    record { number = number_of refusal; place = place_of refusal; steps = steps }

-- Rules 8.2 and 17.2: number, place and steps taken of each case; a trace is path 1, and the step
-- at which it stops is the last one taken
abbrev pub answered : Result ℕ Stopped → Tracing
answered (Ok steps) = record { number = 0; place = no_place; steps = steps }
answered (Err stop) = refused_after stop.step (no.NonFinite 1 stop.step stop.quantity stop.step)

-- Rules 15.2 and 17.3: the refusal of its first No, before which no step is taken; where there is
-- none, what the walk comes to
unfoldable pub trace_call : TraceInputs → Tables → Tracing
unfolding trace_questions trace_answer start_of grid_of
trace_call i lent =
    once_asked (first_no (trace_questions i lent)) (refused_after 0)
    (answered (trace_answer (walk_of i)))

-- Rule 16.2: its tables after it
unfoldable pub trace_tables : TraceInputs → Tables → Tables
unfolding trace_questions start_of grid_of
trace_tables i lent =
    written_once_asked (first_no (trace_questions i lent)) lent
    (tables_after (walk_of i) lent)

-- ---- what is ensured

-- Rule 18.2: the answer and the lent tables after the call
pub record TraceAnswered (i : TraceInputs) (lent after : Tables) (r : Tracing) : Type 0 where
  pub answer : r ≡ trace_call i lent
  pub tables : after ≡ trace_tables i lent
