-- `add_diagonal` meets its contract: after i turns the first i entries of the diagonal have their
-- 1. Assumes nothing.
use Rattle.matrix.proofs.Diagonal.{Bumped}
use Rattle.matrix.proofs.entries.add_diagonal.Given as goal

abbrev pub invariant-loop-i : goal.invariant-loop-i
invariant-loop-i l =
    Bumped l.dim l.initial.m l.m l.i
