-- What every simulating call is given, and the simulation that is made of it. Definitions only.
use Rattle.std.specs.Prelude.{List, Float}
use Rattle.model.specs.declared.Model.{Model}
use Rattle.model.specs.declared.Schedule.{Schedule}
use Rattle.model.specs.declared.Simulation.{Simulation}
use Rattle.model.specs.Kernel.{kernel_of}
use Rattle.model.specs.Parameters.{params_of, start_of}
use Rattle.model.specs.TimeGrid.{grid_of}

-- Rule 5.1: kernel tables, a model and a schedule
pub record Given : Type 0 where
  pub weights : List Float
  pub discounts : List Float
  pub model : Model
  pub schedule : Schedule

-- Rule 5.1: what a call is given, as one record
abbrev pub given : List Float → List Float → Model → Schedule → Given
given weights discounts model schedule =
    record { weights = weights; discounts = discounts; model = model; schedule = schedule }

-- Rule 7.1: what every path shares: kernel, parameters and schedule, as converted, and the start
abbrev pub simulation_of : Given → Simulation
simulation_of g =
    let kernel = kernel_of g.weights g.discounts in
    record {
      kernel = kernel;
      params = params_of g.model;
      start = start_of kernel g.model;
      grid = grid_of g.schedule;
    }
