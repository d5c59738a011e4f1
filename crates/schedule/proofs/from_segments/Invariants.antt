-- `schedule::from_segments` meets its contract. After i segments, each is asked, converted and laid
-- after the one before. Assumes nothing.
use Rattle.schedule.proofs.Laying.{Laying}
use Rattle.schedule.proofs.from_segments.Given as goal

abbrev pub invariant-loop-i : goal.invariant-loop-i
invariant-loop-i l =
    Laying (record { count = l.count; segments = l.segments }) l.dt l.sqrt_dt l.last l.total l.i
