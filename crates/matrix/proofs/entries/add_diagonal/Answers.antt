use native.Mathlib.Omega.{arith}
use lib.Ieee.{of_bits}
use Rattle.matrix.proofs.Diagonal.{bumped_none, bumped_more, bumped_all}
use Rattle.matrix.proofs.entries.add_diagonal.Goals as goal

pub loop-i-init : goal.loop-i-init
loop-i-init c = bumped_none _ _

pub loop-i-preserved : goal.loop-i-preserved
unfolding of_bits
loop-i-preserved c =
    bumped_more _ _ _ _ c.loop-i.invariant c.loop-i-test.true c.requires.1

pub returns : goal.returns
returns c = bumped_all _ _ _ _ c.requires.1 c.loop-i.invariant (omega arith)
