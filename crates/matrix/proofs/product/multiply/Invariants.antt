-- `multiply` meets its contract: after i turns the first i rows are those of the product.
-- Assumes nothing.
use Rattle.matrix.proofs.Rows.{Rows}
use Rattle.matrix.proofs.product.multiply.Given as goal

abbrev pub invariant-loop-i : goal.invariant-loop-i
invariant-loop-i l = Rows l.dim l.left l.right l.initial.into l.into l.i
