-- `mean_row` meets its contract. Assumes nothing.
use Rattle.model.specs.Inner.InUse.{kernel_in_use}
use Rattle.generator_rows.specs.Rows.{mean_entry}
use Rattle.generator_rows.proofs.Entries.{Entries}
use Rattle.generator_rows.proofs.mean_row.Given as goal

abbrev pub invariant-loop-m : goal.invariant-loop-m
invariant-loop-m l =
    Entries (λ column. mean_entry (kernel_in_use l.fn.k) l.p l.i column l.m) l.row
