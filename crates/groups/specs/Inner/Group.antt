-- Four paths side by side: what is claimed of them where they are walked to their ends, and what
-- the functions of the walk leave. Definitions only.
use Rattle.std.specs.Prelude.{◌≡◌, List, ℕ, suc, ◌+◌, ◌*◌, ◌≤◌, ◌<◌, length, get_or, Float}
use Rattle.std.proofs.Math.Option.{none}
use Rattle.std.specs.Float.{nan}
use Rattle.model.specs.Inner.Laid.{Laid}
use Rattle.model.specs.Walk.{state_after, stop_within}
use Rattle.walks.specs.declared.Batch.{Batch as Handed}
use Rattle.walks.specs.declared.Observation.{Observation}
use Rattle.walks.specs.Batch.{Batch, walk_of, draw_place, observation}
use Rattle.walks.specs.Inner.Handed.{factors_read, observe_by}
use Rattle.lanes.specs.declared.Lanes.{Lanes}
use Rattle.lanes.specs.Inner.Lanes.{lane_of}

-- Rules 7.6, 7.7 and 9.4: paths path + 1 to path + 4 do not stop, `lowest` has their lowest spots,
-- and `rows` their observations
pub record FourWalked (b : Batch) (path : ℕ) (rows lowest : List Float) : Type 0 where
  pub going : (l : ℕ) → l < 4
      → stop_within (walk_of b (suc (path + l))) b.simulation.grid.total ≡ none
  pub least : (l : ℕ) → l < 4
      → get_or lowest l nan
      ≡ (state_after (walk_of b (suc (path + l))) b.simulation.grid.total).lowest
  pub seen : (l j : ℕ) → l < 4 → j < b.simulation.grid.count
      → get_or rows (l * b.simulation.grid.count + j) nan
      ≡ observation b (suc (path + l)) (suc j)

-- what the walk is handed
pub record GroupPrepared (b : Handed) (path : ℕ) (draws : List Float) : Type 0 where
  pub form : factors_read b.observation ≤ b.simulation.kernel.n
  pub laid : Laid b.simulation.grid
  pub most : path ≤ 65536
  pub drawn : (l : ℕ) → l < 4
      → draw_place b.mirrored b.simulation.grid.total (suc (path + l))
      (suc b.simulation.grid.total)
      ≤ length draws

-- Rule 9.1: what is observed in each lane, of states of as many factors as the form has, or more
abbrev pub ObservedLanes : Observation → Lanes → List (List Float) → List Float → Type 0
ObservedLanes observation s factors values =
    (n l : ℕ) → factors_read observation ≤ n → l < 4
    → get_or values l nan ≡ observe_by observation (lane_of n s factors l)

-- a column of the four rows
pub record Column (values : List Float) (count segment : ℕ) (before after : List Float)
    : Type 0 where
  pub new : (l : ℕ) → l < 4 → get_or after (l * count + segment) nan ≡ get_or values l nan
  pub kept : (l j : ℕ) → l < 4 → j < count → (j ≡ segment → ⊥)
      → get_or after (l * count + j) nan ≡ get_or before (l * count + j) nan

-- `after` is `before` with `rows` from place `at` on
pub record Copied (rows : List Float) (at : ℕ) (before after : List Float) : Type 0 where
  pub long : length after ≡ length before
  pub front : (x : ℕ) → x < at → get_or after x nan ≡ get_or before x nan
  pub new : (i : ℕ) → i < length rows → get_or after (at + i) nan ≡ get_or rows i nan
  pub back : (x : ℕ) → at + length rows ≤ x → get_or after x nan ≡ get_or before x nan
