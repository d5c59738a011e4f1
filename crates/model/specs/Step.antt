-- A state, how z and variance are read off its factors, and one step of the scheme.
-- Definitions only.
use Rattle.std.specs.Prelude.{Bool, true, false, List, ℕ, zero, suc, get_or, Float}
use Rattle.std.specs.Prelude.{Result, Ok, Err}
use Rattle.std.specs.Float.{nan, binary64}
use Rattle.std.specs.Float.Ieee.{add, sub, mul, div, neg}
use Rattle.numeric.specs.Double.{plus, minus, times, over, one, minus_zero, smaller, finite}
use Rattle.numeric.specs.Root.{root}
use Rattle.numeric.specs.Table.{tabulate}
use Rattle.refusal.specs.declared.Quantity.{Quantity}
use Rattle.refusal.specs.declared.Quantity.TheVariants.{Spot, Z, Variance}
use Rattle.model.specs.declared.Kernel.{Kernel}
use Rattle.model.specs.declared.Params.{Params}
use Rattle.model.specs.declared.State.{State}

-- Rule 5.5: the sum of weight × factor over the first k indices, in their order, begun at -0.0
unfoldable pub weighted_sum : List Float → List Float → ℕ → Float
unfolding add mul
weighted_sum weights factors zero = minus_zero
weighted_sum weights factors (suc k) =
    plus (weighted_sum weights factors k) (times (get_or weights k nan) (get_or factors k nan))

-- Rule 5.6: with s = z - b, ((a × s) × s) + c
unfoldable pub variance_at : Params → Float → Float
unfolding add mul sub
variance_at p z = let s = minus z p.b in plus (times (times p.a s) s) p.c

-- Rule 5.7: the state with this spot, this lowest spot and these factors: z and variance are read
-- off the factors
unfoldable pub read : Kernel → Params → Float → Float → List Float → State
unfolding weighted_sum variance_at
read k p spot lowest factors =
    let z = weighted_sum k.weights factors k.n in
    record { spot = spot; z = z; variance = variance_at p z; factors = factors; lowest = lowest }

-- Rule 7.3: each factor becomes (factor + f) / (1 + (discount × dt))
unfoldable pub moved : Kernel → List Float → Float → Float → List Float
unfolding add mul div tabulate
moved k factors f dt =
    tabulate k.n
    (λ i. over (plus (get_or factors i nan) f) (plus one (times (get_or k.discounts i nan) dt)))

-- Rule 7.2: a step with the draw g: dw = sqrt_dt × g, d = √variance × dw, and the forcing is
-- f = (((-lambda) × z) × dt) + (eta × d), with z and variance of the state before the step.
-- The spot becomes spot + (spot × d), the lowest spot the smaller of itself and the new spot, and
-- the factors are moved by f.
unfoldable pub step : Kernel → Params → State → Float → Float → Float → State
unfolding read moved add mul neg root smaller
step k p s g dt sqrt_dt =
    let dw = times sqrt_dt g in
    let d = times (root binary64 s.variance) dw in
    let f = plus (times (times (neg p.lambda) s.z) dt) (times p.eta d) in
    let spot = plus s.spot (times s.spot d) in
    read k p spot (smaller s.lowest spot) (moved k s.factors f dt)

-- Rule 7.5: a state that is finite, or what of it is not
abbrev pub Finiteness : Type 0
Finiteness = Result Unit Quantity

abbrev pub finite_state : Finiteness
finite_state = Ok tt

-- Rule 7.5: of spot, z and variance, in this order, the first that is not finite
abbrev pub first_of_three : Bool → Bool → Bool → Finiteness
first_of_three false z variance = Err Spot
first_of_three true false variance = Err Z
first_of_three true true false = Err Variance
first_of_three true true true = finite_state

-- Rule 7.5: whether a state is finite; its factors and its lowest spot are not asked
unfoldable pub finiteness : State → Finiteness
finiteness s = first_of_three (finite s.spot) (finite s.z) (finite s.variance)
