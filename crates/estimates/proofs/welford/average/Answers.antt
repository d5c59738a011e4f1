-- `welford::average` meets its contract: the same operations in the same order. Assumes nothing.
use lib.Ieee.{of_bits}
use mathlib.Core.Path.{refl}
use Rattle.estimates.specs.Moments.{average}
use Rattle.estimates.proofs.welford.average.Goals as goal

pub returns : goal.returns
unfolding of_bits average
returns c =
    refl
