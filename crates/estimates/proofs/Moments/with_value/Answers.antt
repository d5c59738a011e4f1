-- `Moments::with_value` meets its contract: the same operations in the same order. Assumes nothing.
use lib.Ieee.{of_bits}
use Rattle.estimates.specs.Moments.{with_value}
use mathlib.Core.Path.{refl}
use Rattle.estimates.proofs.Moments.with_value.Goals as goal

pub returns : goal.returns
unfolding of_bits with_value
returns c =
    refl
