use mathlib.Core.Path.{◌≡◌}
use mathlib.Core.List.{List}
use Prim.Native.Nat.{ℕ, ◌+◌}
use native.Mathlib.Numerals.{add-one}
use lib.Ieee.{Float, add, mul, binary64, nan}
use lib.ListN.{get_or}
use Rattle.numeric.proofs.Doubles.{minus_zero_is}
use Rattle.model.specs.declared.Kernel.{Kernel}
use Rattle.model.specs.Step.{weighted_sum}
use Rattle.model.proofs.scheme.weighted_sum.Goals as goal

-- one product more, of the weight that was read off the opened kernel
one_more :
    {opened k : Kernel} (factors : List Float) (i : ℕ) (sum : Float) → opened ≡ k
    → sum ≡ weighted_sum k.weights factors i
    → add binary64 sum (mul binary64 (get_or opened.weights i nan) (get_or factors i nan))
    ≡ weighted_sum k.weights factors (i + 1)
unfolding weighted_sum
one_more factors i sum same before = rw (same, add-one, before)

pub loop-i-init : goal.loop-i-init
unfolding weighted_sum
loop-i-init c = minus_zero_is

pub loop-i-preserved : goal.loop-i-preserved
loop-i-preserved c = one_more _ c.loop-i.i _ c.k.view_is c.loop-i.invariant
