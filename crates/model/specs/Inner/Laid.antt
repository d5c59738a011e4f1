-- A time grid as admission lays it out. Definitions only.
use Rattle.std.specs.Prelude.{◌≡◌, ℕ, ◌≤◌, ◌<◌}
use Rattle.model.specs.declared.TimeGrid.{TimeGrid}
use Rattle.model.specs.TimeGrid.{last_step}

-- Rule 14.6: 1 to 64 segments, each of a step or more, that end one after the other, the last one
-- at the last step, which is 4096 at most
pub record Laid (sc : TimeGrid) : Type 0 where
  pub some : 1 ≤ sc.count
  pub few : sc.count ≤ 64
  pub short : sc.total ≤ 4096
  pub rises : (i j : ℕ) → i < j → j ≤ sc.count → last_step sc i < last_step sc j
  pub ends : last_step sc sc.count ≡ sc.total
