-- A batch of paths: each path's draws and plain walk, and what is observed of it. Definitions only.
use Rattle.std.specs.Prelude.{Bool, true, false, cond, ◌||◌, List, ℕ, zero, suc, pred, Float}
use Rattle.std.specs.Prelude.{◌+◌, ◌*◌, ◌/◌, ◌%◌, eqb, get_or}
use Rattle.std.specs.Float.{nan}
use Rattle.std.specs.Float.Ieee.{neg, le}
use Rattle.numeric.specs.Double.{plus_zero}
use Rattle.model.specs.declared.Simulation.{Simulation}
use Rattle.model.specs.declared.State.{State}
use Rattle.model.specs.TimeGrid.{last_step}
use Rattle.model.specs.Walk.{Walk, state_after}
use Rattle.walks.specs.declared.Observed.{Observed}

-- Rule 9.1: what the paths of a batch share, what is observed of them, whether they are mirrored
-- pairs, and their draws: `draw p k` is the draw of path p for its step k, both counted from 1
pub record Batch : Type 0 where
  pub simulation : Simulation
  pub observed : Observed
  pub observe : State → Float
  pub mirrored : Bool
  pub paths : ℕ
  pub draw : ℕ → ℕ → Float

-- Rule 9.1: the plain walk of path p
abbrev pub walk_of : Batch → ℕ → Walk
walk_of b p = record { simulation = b.simulation; draw = b.draw p }

-- Rule 9.2: where the draw of step k of path p stands among those lent, from 0; in a
-- mirrored batch paths 2i - 1 and 2i share theirs
abbrev pub draw_place : Bool → ℕ → ℕ → ℕ → ℕ
draw_place true total p k = pred p / 2 * total + pred k
draw_place false total p k = pred p * total + pred k

-- Rule 9.2: and path 2i has them negated
abbrev pub negated_if : Bool → Float → Float
negated_if true g = neg g
negated_if false g = g

-- Rule 9.2: the draw of step k of path p, among those lent
abbrev pub draw_of : Bool → List Float → ℕ → ℕ → ℕ → Float
draw_of true draws total p k =
    negated_if (eqb (p % 2) 0) (get_or draws (draw_place true total p k) nan)
draw_of false draws total p k = get_or draws (draw_place false total p k) nan

-- Rule 9.3: how many draws a batch needs
abbrev pub draws_needed : Bool → ℕ → ℕ → ℕ
draws_needed true paths total = paths / 2 * total
draws_needed false paths total = paths * total

-- Rule 9.1: the batch of a simulation over a list of draws
abbrev pub batch_on : Simulation → Observed → (State → Float) → Bool → ℕ → List Float → Batch
batch_on simulation observed observe mirrored paths draws =
    record {
      simulation = simulation;
      observed = observed;
      observe = observe;
      mirrored = mirrored;
      paths = paths;
      draw = draw_of mirrored draws simulation.grid.total;
    }

-- Rule 9.7: whether a spot is at or below zero after one of the first k steps
unfoldable pub non_positive_by : Walk → ℕ → Bool
unfolding state_after le
non_positive_by w zero = false
non_positive_by w (suc k) = non_positive_by w k || le (state_after w (suc k)).spot plus_zero

-- Rule 9.7: how many of the first n paths are non-positive
unfoldable pub non_positive_paths : Batch → ℕ → ℕ
unfolding non_positive_by
non_positive_paths b zero = 0
non_positive_paths b (suc n) =
    non_positive_paths b n
    + cond (non_positive_by (walk_of b (suc n)) b.simulation.grid.total) 1 0

-- Rule 9.4: the observation of path p at the end of segment j
unfoldable pub observation : Batch → ℕ → ℕ → Float
unfolding state_after
observation b p j = b.observe (state_after (walk_of b p) (last_step b.simulation.grid j))
