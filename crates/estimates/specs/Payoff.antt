-- What a path shows a payoff, and what the payoff pays on it. Definitions only.
use Rattle.std.specs.Prelude.{cond, Float}
use Rattle.std.specs.Float.{binary64}
use Rattle.std.specs.Float.Ieee.{sub, le}
use Rattle.numeric.specs.Double.{minus, plus_zero, positive_part}
use Rattle.numeric.specs.Root.{root}
use Rattle.walks.specs.declared.Observed.{Observed}
use Rattle.walks.specs.declared.Observed.TheVariants.{Spot, VixSquared}
use Rattle.estimates.specs.declared.Style.{Style}
use Rattle.estimates.specs.declared.Style.TheVariants.{Call, Put}
use Rattle.estimates.specs.declared.Payoff.{Payoff}
use Rattle.estimates.specs.declared.Payoff.TheVariants.{Future, Vanilla, DownAndOut}

-- Rule 10.5: a vanilla on x, not below zero; a NaN pays zero
unfoldable pub vanilla_payoff : Style → Float → Float → Float
unfolding sub positive_part
vanilla_payoff Call strike x = positive_part (minus x strike)
vanilla_payoff Put strike x = positive_part (minus strike x)

-- Rule 10.5: a future pays x; a down-and-out put pays what the put pays, but zero where the lowest
-- spot of the path is at or below the barrier
unfoldable pub payoff_of : Payoff → Float → Float → Float
unfolding le vanilla_payoff
payoff_of Future x lowest = x
payoff_of (Vanilla style strike) x lowest = vanilla_payoff style strike x
payoff_of (DownAndOut strike barrier) x lowest =
    cond (le lowest barrier) plus_zero (vanilla_payoff Put strike x)

-- Rule 10.4: x is the last observation, the spot, or the index, the root of the VIX squared
abbrev pub underlying_of : Observed → Float → Float
underlying_of Spot observation = observation
underlying_of VixSquared observation = root binary64 observation
