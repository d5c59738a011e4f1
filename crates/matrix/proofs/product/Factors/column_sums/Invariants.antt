-- `column_sums` meets its contract: after k turns the sums have their first k terms.
-- Assumes nothing.
use Rattle.matrix.specs.Inner.Row.{ColumnSums}
use Rattle.matrix.proofs.product.Factors.column_sums.Given as goal

abbrev pub invariant-loop-k : goal.invariant-loop-k
invariant-loop-k g l =
    ColumnSums l.self l.from g.row.WIDTH l.sums l.k
