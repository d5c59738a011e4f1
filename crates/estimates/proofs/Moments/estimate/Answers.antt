-- `Moments::estimate` meets its contract. Assumes nothing.
use lib.Ieee.{of_bits}
use Rattle.estimates.specs.Moments.{estimate_of}
use Rattle.estimates.proofs.Moments.estimate.Goals as goal

pub returns : goal.returns
unfolding of_bits estimate_of
returns c =
    rw c.sqrt.ensures.root
