-- `store_row` meets its contract. Assumes nothing.
use lib.ListN.{take}
use Rattle.matrix.specs.Matrix.{scaled}
use Rattle.generator_rows.specs.Inner.Appended.{Appended}
use Rattle.generator.proofs.Filling.store_row.Given as goal

abbrev pub invariant-loop-column : goal.invariant-loop-column
invariant-loop-column l =
    Appended l.at (scaled l.self.window (take l.column l.row)) l.initial.work l.work
