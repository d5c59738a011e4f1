-- A schedule, of segments laid end to end, and its time grid. Definitions only.
use Rattle.std.specs.Prelude.{Bool, false, cond, ◌&&◌, ℕ, zero, suc, pred, ◌+◌, leb, ltb, get_or}
use Rattle.std.specs.Prelude.{Float}
use Rattle.std.proofs.Math.Option
use Rattle.std.proofs.Math.Option.{none, some}
use Rattle.std.specs.Float.{nan, binary64}
use Rattle.numeric.specs.Root.{root}
use Rattle.numeric.specs.Table.{tabulate}
use Rattle.decimal.specs.Decimal.{value}
use Rattle.model.specs.declared.Segment.{Segment}
use Rattle.model.specs.declared.Schedule.{Schedule}
use Rattle.model.specs.declared.TimeGrid.{TimeGrid}
use Rattle.model.specs.Parameters.{zero_decimal}
use Rattle.model.specs.First.{first_some}

-- Rule 6.1: segment i as given, counted from 1
abbrev pub segment_at : Schedule → ℕ → Segment
segment_at g i = get_or g.segments (pred i) (record { dt = zero_decimal; steps = 0 })

-- Rule 6.1: the steps of the first i segments together, which is the last step of segment i
unfoldable pub steps_through : Schedule → ℕ → ℕ
steps_through g zero = 0
steps_through g (suc i) = steps_through g i + (segment_at g (suc i)).steps

-- Rule 6.2: of each segment dt as converted, sqrt_dt, which is the root of that double, and its
-- last step
unfoldable pub grid_of : Schedule → TimeGrid
unfolding tabulate steps_through root
grid_of g =
    record {
      count = g.count;
      total = steps_through g g.count;
      dt = tabulate g.count (λ i. value (segment_at g (suc i)).dt);
      sqrt_dt = tabulate g.count (λ i. root binary64 (value (segment_at g (suc i)).dt));
      last = tabulate g.count (λ i. steps_through g (suc i));
    }

-- Rule 6.3: the last step of segment i, counted from 1; before the first segment, 0
abbrev pub last_step : TimeGrid → ℕ → ℕ
last_step sc zero = 0
last_step sc (suc i) = get_or sc.last i 0

-- Rule 6.3: segment i contains the steps after the last one of segment i - 1, up to its own last
abbrev pub contains : TimeGrid → ℕ → ℕ → Bool
contains sc zero k = false
contains sc (suc i) k = ltb (last_step sc i) k && leb k (last_step sc (suc i))

-- Rule 6.4: the first segment that contains step k, or 0
unfoldable pub segment_of : TimeGrid → ℕ → ℕ
unfolding first_some
segment_of sc k = Option.get_or (first_some (λ i. cond (contains sc i k) (some i) none) sc.count) 0

-- Rule 6.4: the dt of step k is that of the segment that contains it
unfoldable pub dt_at : TimeGrid → ℕ → Float
unfolding segment_of
dt_at sc k = get_or sc.dt (pred (segment_of sc k)) nan

-- Rule 6.4: and so is its sqrt_dt
unfoldable pub sqrt_dt_at : TimeGrid → ℕ → Float
unfolding segment_of
sqrt_dt_at sc k = get_or sc.sqrt_dt (pred (segment_of sc k)) nan
