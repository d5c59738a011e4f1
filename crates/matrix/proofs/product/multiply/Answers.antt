use Rattle.matrix.proofs.Rows.{rows_none, rows_more, rows_all}
use Rattle.matrix.proofs.product.multiply.Goals as goal

pub loop-i-init : goal.loop-i-init
loop-i-init c = rows_none _ _ _ _ c.requires.2.1

pub loop-i-preserved : goal.loop-i-preserved
loop-i-preserved c =
    rows_more _ _ _ _ c.requires.2.1 _ _ c.loop-i.invariant c.loop-i-test.true c.fill_row.new.row
    c.fill_row.auto.row c.fill_row.ensures.column

pub returns : goal.returns
returns c =
    rows_all _ _ _ _ c.requires.2.1 _ _ c.loop-i.invariant c.loop-i-test.false
