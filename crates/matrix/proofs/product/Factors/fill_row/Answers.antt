use Rattle.matrix.proofs.Products.{filled_none}
use Rattle.matrix.proofs.product.Factors.fill_row.Goals as goal

pub loop-j-init : goal.loop-j-init
loop-j-init c = filled_none _ _ c.requires
