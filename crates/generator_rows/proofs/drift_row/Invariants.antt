-- `drift_row` meets its contract. Assumes nothing.
use Rattle.model.specs.Inner.InUse.{kernel_in_use}
use Rattle.generator_rows.specs.Rows.{drift_entry}
use Rattle.generator_rows.proofs.Entries.{Entries}
use Rattle.generator_rows.proofs.drift_row.Given as goal

abbrev pub invariant-loop-m : goal.invariant-loop-m
invariant-loop-m l =
    Entries (λ column. drift_entry (kernel_in_use l.fn.k) l.p l.i l.j column l.m) l.row
