use lib.Ieee.{of_bits}
use mathlib.Core.Path.{refl}
use Rattle.matrix.proofs.Products.{sums_none, sums_skip, sums_add}
use Rattle.matrix.proofs.product.Factors.column_sums.Goals.{then-entry, else-entry}
use Rattle.matrix.proofs.product.Factors.column_sums.Goals as goal

pub loop-k-init : goal.loop-k-init
unfolding of_bits
loop-k-init g c = sums_none _ _ _ _ refl

pub loop-k-preserved : goal.loop-k-preserved
unfolding of_bits
loop-k-preserved g c =
    elim c.if-entry.branch [
      | then-entry w ↦
          sums_add _ _ _ _ _ _ _ c.loop-k-test.true c.requires
          c.loop-k.invariant w.if-entry.true w.add_multiple.ensures w.sums-is
      | else-entry w ↦ sums_skip _ _ _ _ _ _ c.loop-k.invariant w.if-entry.false w.sums-is
    ]
