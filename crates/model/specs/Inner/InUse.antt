-- The code keeps tables, factors and segments in arrays of ten and of 64, of which the first places
-- are in use. Definitions only.
use Rattle.std.specs.Prelude.{ℕ, take}
use Rattle.model.specs.declared.Kernel.{Kernel}
use Rattle.model.specs.declared.State.{State}
use Rattle.model.specs.declared.TimeGrid.{TimeGrid}
use Rattle.model.specs.declared.Simulation.{Simulation}

-- Rule 5.2: the first n weights and discounts
abbrev pub kernel_in_use : Kernel → Kernel
kernel_in_use k =
    record {
      n = k.n;
      weights = take k.n k.weights;
      discounts = take k.n k.discounts;
    }

-- Rule 5.7: a state with its first n factors
abbrev pub state_in_use : ℕ → State → State
state_in_use n s =
    record {
      spot = s.spot;
      z = s.z;
      variance = s.variance;
      factors = take n s.factors;
      lowest = s.lowest;
    }

-- Rule 6.2: the segments that there are
abbrev pub grid_in_use : TimeGrid → TimeGrid
grid_in_use sc =
    record {
      count = sc.count;
      total = sc.total;
      dt = take sc.count sc.dt;
      sqrt_dt = take sc.count sc.sqrt_dt;
      last = take sc.count sc.last;
    }

-- Rule 7.1: a simulation of these
abbrev pub simulation_in_use : Simulation → Simulation
simulation_in_use s =
    record {
      kernel = kernel_in_use s.kernel;
      params = s.params;
      start = state_in_use s.kernel.n s.start;
      grid = grid_in_use s.grid;
    }
