-- What the questions of a trace leave. Definitions only.
use Rattle.std.specs.Prelude.{◌≡◌, ◌++◌, ℕ, ◌+◌, ◌*◌, Result, IfOk}
use Rattle.refusal.specs.declared.Refusal.{Refusal}
use Rattle.refusal.specs.Questions.{first_no}
use Rattle.refusal.specs.Inner.Outcomes.{outcome_of}
use Rattle.model.specs.declared.Simulation.{Simulation}
use Rattle.model.specs.Simulation.{Given, simulation_of}
use Rattle.admission.specs.Questions.{model_questions}
use Rattle.admission.specs.Inner.Admission.{SimulationReady}
use Rattle.trace.specs.declared.Lengths.{Lengths}
use Rattle.trace.specs.Call.{table_questions}

-- how long the tables of so many points with n factors are
abbrev pub lengths_needed : ℕ → ℕ → Lengths
lengths_needed points n =
    record { spots = points; variances = points; z = points; factors = points * n }

-- a simulation of what is given, a draw for each of its steps, and tables of all its points
pub record TraceReady (g : Given) (drawn : ℕ) (lent : Lengths) (s : Simulation) : Type 0 where
  pub simulation : SimulationReady g s
  pub draws : drawn ≡ s.grid.total
  pub tables : lent ≡ lengths_needed (s.grid.total + 1) s.kernel.n

pub record TraceAdmitted (g : Given) (drawn : ℕ) (lent : Lengths) (r : Result Simulation Refusal)
    : Type 0 where
  pub outcome :
      outcome_of r
      ≡ first_no
      (model_questions g
      ++ table_questions (simulation_of g).grid.total (simulation_of g).kernel.n drawn lent)
  pub ready : IfOk r (TraceReady g drawn lent)
