-- `replay::inputs::factors` meets its contract: a Decimal is read in each turn. Assumes nothing.
use Rattle.std.proofs.Common.{◌*◌}
use Rattle.replay.specs.Words.{Read}
use Rattle.replay.proofs.inputs.factors.Given as goal

abbrev pub invariant-loop-factor : goal.invariant-loop-factor
invariant-loop-factor l =
    Read (2 * l.factor-index) l.initial.case.rest.now l.case.rest.now
