-- `replay::outcomes::values` meets its contract: a word is read in each turn. Assumes nothing.
use Rattle.replay.specs.Words.{Read}
use Rattle.replay.proofs.outcomes.values.Given as goal

abbrev pub invariant-loop-value : goal.invariant-loop-value
invariant-loop-value l = Read l.value-index l.initial.case.rest.now l.case.rest.now
