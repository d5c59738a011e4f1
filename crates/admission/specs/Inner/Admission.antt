-- What admission answers: the outcome of their questions and, where all passed, what they prepared.
-- Definitions only.
use Rattle.std.specs.Prelude.{◌≡◌, true, List, ℕ, ◌≤◌, ◌<◌, get_or, Float, Result, IfOk}
use Rattle.std.specs.Float.{nan}
use Rattle.refusal.specs.declared.Refusal.{Refusal}
use Rattle.refusal.specs.Questions.{first_no}
use Rattle.refusal.specs.Inner.Outcomes.{outcome_of}
use Rattle.model.specs.declared.Kernel.{Kernel}
use Rattle.model.specs.declared.Model.{Model}
use Rattle.model.specs.declared.Simulation.{Simulation}
use Rattle.model.specs.Kernel.{in_range, kernel_of}
use Rattle.model.specs.Parameters.{params_of, start_of}
use Rattle.model.specs.Simulation.{Given, simulation_of}
use Rattle.model.specs.Inner.InUse.{kernel_in_use, state_in_use, simulation_in_use}
use Rattle.model.specs.Inner.Laid.{Laid}
use Rattle.model.specs.Inner.Admitted.{ParamsReady, Admitted}
use Rattle.admission.specs.declared.params.Initial.{Initial}
use Rattle.admission.specs.Questions.{kernel_questions, params_questions, model_questions}

-- the tables in use are those given, 1 to 10 of each, every weight in range
pub record KernelReady (weights discounts : List Float) (k : Kernel) : Type 0 where
  pub in_use : kernel_in_use k ≡ kernel_of weights discounts
  pub some : 1 ≤ k.n
  pub few : k.n ≤ 10
  pub weight : (i : ℕ) → i < k.n → in_range (get_or k.weights i nan) ≡ true

pub record KernelPrepared (weights discounts : List Float) (r : Result Kernel Refusal)
    : Type 0 where
  pub outcome : outcome_of r ≡ first_no (kernel_questions weights discounts)
  pub ready : IfOk r (KernelReady weights discounts)

-- the parameters as converted and the start of a walk over these tables
pub record InitialReady (k : Kernel) (p : Model) (x : Initial) : Type 0 where
  pub params : x.params ≡ params_of p
  pub start : state_in_use k.n x.start ≡ start_of (kernel_in_use k) p
  pub ready : ParamsReady k.n x.params (state_in_use k.n x.start)

pub record ParamsPrepared (k : Kernel) (p : Model) (r : Result Initial Refusal) : Type 0 where
  pub outcome : outcome_of r ≡ first_no (params_questions k.n p)
  pub ready : IfOk r (InitialReady k p)

-- the simulation in use is that of what is given; it is admitted, its schedule laid out, and it has
-- 1 to 10 factors
pub record SimulationReady (g : Given) (s : Simulation) : Type 0 where
  pub in_use : simulation_in_use s ≡ simulation_of g
  pub admitted : Admitted (simulation_in_use s)
  pub laid : Laid s.grid
  pub some : 1 ≤ s.kernel.n
  pub few : s.kernel.n ≤ 10

pub record ModelPrepared (g : Given) (r : Result Simulation Refusal) : Type 0 where
  pub outcome : outcome_of r ≡ first_no (model_questions g)
  pub ready : IfOk r (SimulationReady g)
