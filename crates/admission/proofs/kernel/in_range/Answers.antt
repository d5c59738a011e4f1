-- `admission::kernel::in_range` meets its contract: the two constants are 2^-90 and 2^90. Assumes
-- nothing.
use lib.Ieee.{of_bits}
use Rattle.model.specs.Kernel.{in_range}
use Rattle.admission.proofs.kernel.in_range.Goals as goal

pub returns-then-x : goal.returns-then-x
unfolding in_range of_bits
returns-then-x c =
    rw c.if-x.true

pub returns-else-x : goal.returns-else-x
unfolding in_range of_bits
returns-else-x c =
    rw c.if-x.false
