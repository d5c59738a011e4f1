-- `store_means` meets its contract. Assumes nothing.
use Rattle.generator_rows.specs.Inner.Appended.{Appended}
use Rattle.generator_rows.specs.State.{joined}
use Rattle.generator.specs.Inner.Filling.{mean_of}
use Rattle.generator.proofs.Filling.store_means.Given as goal

abbrev pub invariant-loop-i : goal.invariant-loop-i
invariant-loop-i l = Appended 0 (joined (mean_of l.self) l.i) l.initial.work l.work
