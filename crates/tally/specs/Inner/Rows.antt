-- What the rows of paths that have ended come to, and their lowest spots. Definitions only.
use Rattle.std.specs.Prelude.{cond, List, ℕ, zero, suc, pred, ◌+◌, ◌*◌, get_or, Float}
use Rattle.std.specs.Float.{nan}
use Rattle.std.specs.Float.Ieee.{le}
use Rattle.numeric.specs.Double.{plus_zero}
use Rattle.model.specs.Walk.{state_after}
use Rattle.walks.specs.declared.Observed.{Observed}
use Rattle.walks.specs.Batch.{Batch, walk_of, observation}
use Rattle.estimates.specs.declared.Payoff.{Payoff}
use Rattle.estimates.specs.declared.Tally.{Tally}
use Rattle.estimates.specs.Payoff.{payoff_of, underlying_of}
use Rattle.estimates.specs.Inner.Tally.{with_path, tally_of}

-- the last observation of row p in a table of `count` columns
abbrev pub last_observation : List Float → ℕ → ℕ → Float
last_observation rows count p = get_or rows (pred p * count + pred count) nan

-- a tally with the first n rows, and with the lowest spot of each
unfoldable pub with_rows : Tally → Payoff → Observed → List Float → ℕ → List Float → ℕ → Tally
unfolding with_path
with_rows tally payoff observed rows count lowest zero = tally
with_rows tally payoff observed rows count lowest (suc n) =
    with_path payoff (with_rows tally payoff observed rows count lowest n)
    (underlying_of observed (last_observation rows count (suc n))) (get_or lowest n nan)

-- Rule 9.7: how many of the first n lowest spots are at or below zero
unfoldable pub fallen_among : List Float → ℕ → ℕ
unfolding le
fallen_among lowest zero = 0
fallen_among lowest (suc n) = fallen_among lowest n + cond (le (get_or lowest n nan) plus_zero) 1 0

-- what path p of a batch shows a payoff: its underlying, and its lowest spot
abbrev pub underlying_in : Batch → ℕ → Float
underlying_in b p = underlying_of b.observed (observation b p b.simulation.grid.count)

abbrev pub lowest_in : Batch → ℕ → Float
lowest_in b p = (state_after (walk_of b p) b.simulation.grid.total).lowest

-- what it pays
abbrev pub paid_in : Batch → Payoff → ℕ → Float
paid_in b payoff p = payoff_of payoff (underlying_in b p) (lowest_in b p)

-- the tally of the first n paths
abbrev pub tally_in : Batch → Payoff → ℕ → Tally
tally_in b payoff n = tally_of b.mirrored (paid_in b payoff) (underlying_in b) n
