-- `trace::trace` meets its contract: the questions, and then the walk. Assumes nothing.
use Rattle.trace.proofs.Admitting.{refused_first, walked}
use Rattle.trace.proofs.trace.Goals as goal

pub returns-in-Ok : goal.returns-in-Ok
returns-in-Ok c =
    walked _ _ _ c.in-Ok.ensures _ c.walk.ensures.answer _ c.walk.ensures.tables _ c.from.ensures

pub returns-in-Err : goal.returns-in-Err
returns-in-Err c = refused_first _ _ _ c.in-Err.ensures _ c.refused.ensures
