-- `groups::write_column` meets its contract. Assumes nothing.
use mathlib.Core.Path.{◌≡◌}
use lib.ListN.{length, get_or}
use lib.Ieee.{nan}
use Rattle.groups.proofs.Rows.{Columns}
use Rattle.groups.proofs.write_column.Given as goal

abbrev pub invariant-loop-l : goal.invariant-loop-l
invariant-loop-l l =
    (length l.rows ≡ 256) × Columns l.count l.segment (λ j. get_or l.values j nan) l.l l.initial.rows l.rows
