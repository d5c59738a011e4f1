-- `replay::outcomes::counts` meets its contract: a word is read in each turn. Assumes nothing.
use Rattle.replay.specs.Words.{Read}
use Rattle.replay.proofs.outcomes.counts.Given as goal

abbrev pub invariant-loop-count : goal.invariant-loop-count
invariant-loop-count l = Read l.count-index l.initial.case.rest.now l.case.rest.now
