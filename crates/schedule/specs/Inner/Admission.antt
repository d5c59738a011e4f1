-- What the schedule's admission answers: the outcome of its questions and, where all passed, the
-- schedule. Definitions only.
use Rattle.std.specs.Prelude.{◌≡◌, Result, IfOk}
use Rattle.refusal.specs.declared.Refusal.{Refusal}
use Rattle.refusal.specs.Questions.{first_no}
use Rattle.refusal.specs.Inner.Outcomes.{outcome_of}
use Rattle.model.specs.declared.TimeGrid.{TimeGrid}
use Rattle.model.specs.declared.Schedule.{Schedule}
use Rattle.model.specs.TimeGrid.{grid_of}
use Rattle.model.specs.Inner.InUse.{grid_in_use}
use Rattle.model.specs.Inner.Laid.{Laid}
use Rattle.schedule.specs.Questions.{schedule_questions}

-- the schedule in use is that of the segments given, and its segments end one after the other
pub record ScheduleReady (g : Schedule) (sc : TimeGrid) : Type 0 where
  pub in_use : grid_in_use sc ≡ grid_of g
  pub laid : Laid sc

pub record SchedulePrepared (g : Schedule) (r : Result TimeGrid Refusal) : Type 0 where
  pub outcome : outcome_of r ≡ first_no (schedule_questions g)
  pub ready : IfOk r (ScheduleReady g)
