use mathlib.Core.Path.{refl}
use lib.Ieee.{of_bits}
use Rattle.exponential.specs.Norm.{column_sum}
use Rattle.exponential.proofs.Norms.{sum_more}
use Rattle.exponential.proofs.norm.column_sum.Goals as goal

pub loop-i-init : goal.loop-i-init
unfolding column_sum of_bits
loop-i-init c = refl

pub loop-i-preserved : goal.loop-i-preserved
loop-i-preserved c = sum_more _ _ _ _ _ _ c.loop-i.invariant c.abs-sum.ensures
