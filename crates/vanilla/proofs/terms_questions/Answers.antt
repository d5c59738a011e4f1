-- `terms_questions` meets its contract: those of the strike, and those of a barrier after them.
-- Assumes nothing.
use mathlib.Core.Path.{sym}
use Rattle.refusal.proofs.Laws.{exits, stops, then}
use Rattle.batch.specs.Questions.{strike_questions, barrier_questions}
use Rattle.vanilla.proofs.terms_questions.Goals as goal

pub returns-in_err-strike_questions-in-DownAndOut : goal.returns-in_err-strike_questions-in-DownAndOut
returns-in_err-strike_questions-in-DownAndOut c =
    let strike = strike_questions c.in-DownAndOut.strike in
    let barrier = barrier_questions c.in-DownAndOut.barrier in
    rw (c.in-DownAndOut.is, exits _ _ c.from_residual.ensures.1)
    (sym (stops strike barrier _ (sym c.in_err-strike_questions-in-DownAndOut.ensures)))

pub returns-in_ok-strike_questions-in-DownAndOut : goal.returns-in_ok-strike_questions-in-DownAndOut
returns-in_ok-strike_questions-in-DownAndOut c =
    let strike = strike_questions c.in-DownAndOut.strike in
    let barrier = barrier_questions c.in-DownAndOut.barrier in
    rw (c.in-DownAndOut.is, c.barrier_questions.ensures)
    (sym (then strike barrier (sym c.in_ok-strike_questions-in-DownAndOut.ensures)))
