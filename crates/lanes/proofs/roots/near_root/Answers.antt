-- `lanes::roots::near_root` is safe: each pattern that is made a float is no NaN's.
-- Assumes nothing.
use native.Mathlib.Omega.{arith}
use Rattle.numeric.proofs.Patterns.{no_nan}
use Rattle.lanes.proofs.roots.near_root.Goals as goal

pub float_from_bits-r0 : goal.float_from_bits-r0
float_from_bits-r0 c =
    no_nan _ (omega arith)
