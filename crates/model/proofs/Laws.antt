-- What the first n places of an array of ten say. Assumes nothing.
use mathlib.Core.Path.{◌≡◌, refl, sym, ap, ◌∙◌}
use mathlib.Core.List.{List}
use Prim.Native.Nat.{ℕ, zero, suc, ◌≤◌}
use native.Mathlib.Omega.{arith}
use lib.ListN.{length, get_or, take, get_or-eq_default}
use lib.Seq.{get_or-take}
use lib.Ieee.{Float, nan, binary64, neg}
use Rattle.numeric.specs.Double.{plus, times, smaller}
use Rattle.numeric.proofs.Tables.{take_is_tabulate}
use Rattle.numeric.specs.Root.{root}
use Rattle.model.specs.declared.Kernel.{Kernel}
use Rattle.model.specs.declared.Params.{Params}
use Rattle.model.specs.declared.State.{State}
use Rattle.model.specs.declared.Rates.{Rates}
use Rattle.model.specs.Step.{weighted_sum, variance_at, read, moved, step}
use Rattle.model.specs.Inner.InUse.{kernel_in_use, state_in_use}
use Rattle.model.specs.Inner.Rates.{RatesOf, Moved}

-- a sum over the first k places is the same over the first n of the tables
pub sum_take : (weights factors : List Float) (n k : ℕ) → k ≤ n → weighted_sum (take n weights) (take n factors) k ≡ weighted_sum weights factors k
unfolding weighted_sum
sum_take weights factors n zero h = refl
sum_take weights factors n (suc k) h =
    rw (sum_take weights factors n k (omega arith), get_or-take n weights k nan h, get_or-take n factors k nan h)

-- what is read off the first n factors
pub read_take : (k : Kernel) (p : Params) (spot lowest z variance : Float) (factors : List Float) → z ≡ weighted_sum k.weights factors k.n → variance ≡ variance_at p z → ◌≡◌ {A = State} (record { spot = spot; z = z; variance = variance; factors = take k.n factors; lowest = lowest }) (read (kernel_in_use k) p spot lowest (take k.n factors))
unfolding read
read_take k p spot lowest z variance factors e v =
    let sum : weighted_sum (take k.n k.weights) (take k.n factors) k.n ≡ z = sum_take k.weights factors k.n k.n (omega arith) ∙ sym e in
    rw (sum, v)

-- the first n factors after a step
moved_take : (k : Kernel) (factors next : List Float) (f : Float) (r : Rates) → k.n ≤ 10 → RatesOf k r.dt r.sqrt_dt r → Moved k.n factors f r.divisors next → take k.n next ≡ moved (kernel_in_use k) (take k.n factors) f r.dt
unfolding moved
moved_take k factors next f r few rates m =
    take_is_tabulate nan k.n _ next (omega (arith, m.long))
    (λ i h. m.entry i h ∙ rw (rates.divisor i h, get_or-take k.n factors i nan h, get_or-take k.n k.discounts i nan h))

-- past the end of both tables
pub rates_past : (k : Kernel) (r : Rates) (dts roots : List Float) (i : ℕ) → length dts ≤ i → length roots ≤ i → RatesOf k nan nan r → RatesOf k (get_or dts i nan) (get_or roots i nan) r
rates_past k r dts roots i d s h = rw (get_or-eq_default dts nan d, get_or-eq_default roots nan s) h

-- a step, with the root taken beforehand
module _ (k : Kernel) (p : Params) (s : State) (g : Float) (r : Rates) (next : List Float) (few : k.n ≤ 10) (rates : RatesOf k r.dt r.sqrt_dt r) where
  abbrev diffusion : Float → Float
  diffusion y = times y (times r.sqrt_dt g)

  abbrev forcing : Float → Float
  forcing y = plus (times (times (neg p.lambda) s.z) r.dt) (times p.eta (diffusion y))

  -- the state with that root, where the next factors are these
  abbrev rooted : Float → List Float → State
  rooted y factors =
      let spot = plus s.spot (times s.spot (diffusion y)) in
      read (kernel_in_use k) p spot (smaller s.lowest spot) factors

  pub step_take : (y lowest : Float) → y ≡ root binary64 s.variance → lowest ≡ smaller s.lowest (plus s.spot (times s.spot (diffusion y))) → Moved k.n s.factors (forcing y) r.divisors next → read (kernel_in_use k) p (plus s.spot (times s.spot (diffusion y))) lowest (take k.n next) ≡ step (kernel_in_use k) p (state_in_use k.n s) g r.dt r.sqrt_dt
  unfolding step
  step_take y lowest e l m =
      ap (λ (lowest : Float). read (kernel_in_use k) p (plus s.spot (times s.spot (diffusion y))) lowest (take k.n next)) l
      ∙ ap (rooted y) (moved_take k s.factors next (forcing y) r few rates m)
      ∙ ap (λ (y : Float). rooted y (moved (kernel_in_use k) (take k.n s.factors) (forcing y) r.dt)) e
