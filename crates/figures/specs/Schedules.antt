-- Rule 19.2: the dt of a step, of two segments, as the definitions have it.
use Rattle.std.specs.Prelude.{◌≡◌, ℕ, false, [], ◌∷◌, refl}
use Rattle.std.specs.Float.{binary64}
use Rattle.std.specs.Float.Ieee.{of_bits}
use Rattle.decimal.specs.Decimal.{value}
use Rattle.model.specs.declared.Segment.{Segment}
use Rattle.model.specs.declared.Schedule.{Schedule}
use Rattle.model.specs.TimeGrid.{grid_of, dt_at}

-- steps of percent / 100 years
segment : ℕ → ℕ → Segment
segment percent steps =
    record { dt = record { low = percent; high = 0; scale = 2; negative = false }; steps = steps }

-- 2 steps of 0.25 and 3 steps of 0.5: step 2 takes 0.25 and step 3 takes 0.5
two_segments : Schedule
two_segments = record { count = 2; segments = segment 25 2 ∷ segment 50 3 ∷ [] }

dt_of_step_2 : dt_at (grid_of two_segments) 2 ≡ of_bits binary64 0x3fd0_0000_0000_0000
unfolding segment two_segments grid_of dt_at value of_bits
dt_of_step_2 = refl

dt_of_step_3 : dt_at (grid_of two_segments) 3 ≡ of_bits binary64 0x3fe0_0000_0000_0000
unfolding segment two_segments grid_of dt_at value of_bits
dt_of_step_3 = refl
