-- `pricing::check_squared` meets its contract. The loop's invariant: the paths passed got a Yes.
-- Assumes nothing.
use Rattle.std.proofs.Common.{◌≡◌}
use Rattle.refusal.specs.Questions.{first_no, each, passed}
use Rattle.batch.specs.Report.{squared_questions}
use Rattle.tally.specs.Inner.Rows.{last_observation}
use Rattle.batch.proofs.pricing.check_squared.Given as goal

abbrev pub invariant-loop-path : goal.invariant-loop-path
invariant-loop-path l =
    first_no (each (squared_questions (last_observation l.observations l.count)) l.path) ≡ passed
