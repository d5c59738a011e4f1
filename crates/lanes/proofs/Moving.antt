-- Four lanes that are moved factor by factor. Assumes nothing.
use Prim.Native.Nat.{ℕ, zero, suc, ◌+◌, ◌≤◌, ◌<◌}
use mathlib.Core.Path.{◌≡◌, refl, sym, ap, ◌∙◌}
use mathlib.Core.List.{List, []}
use native.Mathlib.Numerals.{add-one}
use native.Mathlib.Omega.{arith}
use borrow.Author.Count.{below_more}
use lib.ListN.{length, get_or, set, take}
use lib.Seq.{get_or-take, get_or-set_same, get_or-set_other}
use lib.Ieee.{Float, nan, binary64, neg}
use Rattle.numeric.specs.Double.{plus, times, over, minus_zero, smaller}
use Rattle.numeric.specs.Root.{root}
use Rattle.numeric.proofs.Tables.{get_d_tabulate, tabulate_same}
use Rattle.model.specs.declared.Kernel.{Kernel}
use Rattle.lanes.specs.declared.Lanes.{Lanes}
use Rattle.model.specs.declared.Rates.{Rates}
use Rattle.model.specs.declared.Params.{Params}
use Rattle.model.specs.declared.State.{State}
use Rattle.model.specs.Inner.Rates.{RatesOf}
use Rattle.lanes.specs.Inner.Lanes.{factor_at, lane_factors, lane_of, RowMoved, LanesMoved, LanesStepped}
use Rattle.model.specs.Step.{weighted_sum, variance_at, read, moved, step}
use Rattle.model.specs.Inner.InUse.{kernel_in_use}

-- a sum over the first k places depends on these alone
pub sum_same : (weights f g : List Float) (k : ℕ) → ((i : ℕ) → i < k → get_or f i nan ≡ get_or g i nan) → weighted_sum weights f k ≡ weighted_sum weights g k
unfolding weighted_sum
sum_same weights f g zero h = refl
sum_same weights f g (suc k) h = rw (sum_same weights f g k (λ i l. h i (omega arith)), h k (omega arith))

-- the first i factors of each lane are moved, the others are as before, and z has the sums
pub record Going (i : ℕ) (forcing divisors weights : List Float) (before after : List (List Float)) (z : List Float) : Type 0 where
  pub new : (j l : ℕ) → j < i → l < 4 → factor_at after j l ≡ over (plus (factor_at before j l) (get_or forcing l nan)) (get_or divisors j nan)
  pub rest : (j : ℕ) → i ≤ j → get_or after j [] ≡ get_or before j []
  pub sum : (l : ℕ) → l < 4 → get_or z l nan ≡ weighted_sum weights (lane_factors i after l) i

pub going_more : (i : ℕ) (forcing divisors weights : List Float) (before after : List (List Float)) (row z z' : List Float) → i < length after → Going i forcing divisors weights before after z → RowMoved forcing (get_or divisors i nan) (get_or after i []) row → ((l : ℕ) → l < 4 → get_or z' l nan ≡ plus (get_or z l nan) (times (get_or weights i nan) (factor_at (set after i row) i l))) → Going (i + 1) forcing divisors weights before (set after i row) z'
unfolding weighted_sum
going_more i forcing divisors weights before after row z z' b g r s =
    record {
      new = λ j l h k.
          below_more (λ (j : ℕ). factor_at next j l ≡ over (plus (factor_at before j l) (get_or forcing l nan)) (get_or divisors j nan)) i
          (λ j m. ap (in_lane l) (other j (λ e. absurd (omega arith))) ∙ g.new j l m k)
          (here l ∙ r l k ∙ ap (λ (x : List Float). over (plus (get_or x l nan) (get_or forcing l nan)) (get_or divisors i nan)) (g.rest i (omega arith))) j h;
      rest = λ j h. other j (λ e. absurd (omega arith)) ∙ g.rest j (omega arith);
      sum = λ l k. s l k ∙ next_sum l k ∙ ap (weighted_sum weights (lane_factors (i + 1) next l)) (sym (add-one i));
    }
  where
    next : List (List Float)
    next = set after i row

    in_lane : ℕ → List Float → Float
    in_lane l x = get_or x l nan

    other : (j : ℕ) → (j ≡ i → ⊥) → get_or next j [] ≡ get_or after j []
    other j e = get_or-set_other after i j row [] e

    here : (l : ℕ) → factor_at next i l ≡ get_or row l nan
    here l = ap (in_lane l) (get_or-set_same after i row [] b)

    kept_sum : (l : ℕ) → l < 4 → weighted_sum weights (lane_factors i after l) i ≡ weighted_sum weights (lane_factors (i + 1) next l) i
    kept_sum l k =
        sum_same weights _ _ i (λ j m. get_d_tabulate i j (λ (x : ℕ). factor_at after x l) nan m ∙ sym (ap (in_lane l) (other j (λ e. absurd (omega arith)))) ∙ sym (get_d_tabulate (i + 1) j (λ (x : ℕ). factor_at next x l) nan (omega arith)))

    last : (l : ℕ) → factor_at next i l ≡ get_or (lane_factors (i + 1) next l) i nan
    last l = sym (get_d_tabulate (i + 1) i (λ (x : ℕ). factor_at next x l) nan (omega arith))

    next_sum : (l : ℕ) → l < 4 → plus (get_or z l nan) (times (get_or weights i nan) (factor_at next i l)) ≡ weighted_sum weights (lane_factors (i + 1) next l) (suc i)
    next_sum l k = ap (λ (x : Float). plus x (times (get_or weights i nan) (factor_at next i l))) (g.sum l k ∙ kept_sum l k) ∙ ap (λ (x : Float). plus (weighted_sum weights (lane_factors (i + 1) next l) i) (times (get_or weights i nan) x)) (last l)

pub going_none : (forcing divisors weights : List Float) (before : List (List Float)) (z : List Float) → ((l : ℕ) → l < 4 → get_or z l nan ≡ minus_zero) → Going 0 forcing divisors weights before before z
unfolding weighted_sum
going_none forcing divisors weights before z s =
    record { new = λ j l h k. absurd (omega arith); rest = λ x h. refl; sum = λ l k. s l k }

-- ---- a step of each lane

abbrev pub diffusion_of : Float → Float → Float → Float
diffusion_of sqrt_dt y g = times y (times sqrt_dt g)

abbrev pub forcing_of : Params → Float → Float → Float → Float
forcing_of p dt z d = plus (times (times (neg p.lambda) z) dt) (times p.eta d)

weights_take : (weights f : List Float) (n k : ℕ) → k ≤ n → weighted_sum (take n weights) f k ≡ weighted_sum weights f k
unfolding weighted_sum
weights_take weights f n zero h = refl
weights_take weights f n (suc k) h = rw (weights_take weights f n k (omega arith), get_or-take n weights k nan h)

module _ (k : Kernel) (p : Params) (s : Lanes) (rates : Rates) (forcing : List Float) (before after : List (List Float)) (z : List Float) (own : RatesOf k rates.dt rates.sqrt_dt rates) (m : LanesMoved k.n forcing rates.divisors k.weights before after z) (l : ℕ) (h : l < 4) where
  lane_moved : lane_factors k.n after l ≡ moved (kernel_in_use k) (lane_factors k.n before l) (get_or forcing l nan) rates.dt
  unfolding moved
  lane_moved =
      tabulate_same nan k.n _ _
      (λ i j. m.new i l j h ∙ rw (own.divisor i j, get_d_tabulate k.n i (λ (x : ℕ). factor_at before x l) nan j, get_or-take k.n k.discounts i nan j))

  lane_sum : get_or z l nan ≡ weighted_sum (take k.n k.weights) (lane_factors k.n after l) k.n
  lane_sum = m.sum l h ∙ sym (weights_take k.weights _ k.n k.n (omega arith))

  -- a lane with this spot, variance and lowest spot
  abbrev lane_with : Float → Float → Float → State
  lane_with spot variance lowest =
      record {
        spot = spot;
        z = get_or z l nan;
        variance = variance;
        factors = lane_factors k.n after l;
        lowest = lowest;
      }

  lane_read : (spot variance lowest : Float) → variance ≡ variance_at p (get_or z l nan) → lane_with spot variance lowest ≡ read (kernel_in_use k) p spot lowest (lane_factors k.n after l)
  unfolding read
  lane_read spot variance lowest v = rw (v, lane_sum)

  lane_step : (y g spot variance lowest : Float) → y ≡ root binary64 (get_or s.variance l nan) → get_or forcing l nan ≡ forcing_of p rates.dt (get_or s.z l nan) (diffusion_of rates.sqrt_dt y g) → spot ≡ plus (get_or s.spot l nan) (times (get_or s.spot l nan) (diffusion_of rates.sqrt_dt y g)) → variance ≡ variance_at p (get_or z l nan) → lowest ≡ smaller (get_or s.lowest l nan) spot
      → lane_with spot variance lowest ≡ step (kernel_in_use k) p (lane_of k.n s before l) g rates.dt rates.sqrt_dt
  unfolding step
  lane_step y g spot variance lowest e f q v b =
      lane_read spot variance lowest v
      ∙ ap (read (kernel_in_use k) p spot lowest) (lane_moved ∙ ap (λ (x : Float). moved (kernel_in_use k) (lane_factors k.n before l) x rates.dt) f)
      ∙ rw (b, q, e)

pub lanes_stepped : (roots : List Float) (k : Kernel) (p : Params) (s : Lanes) (g : List Float) (rates : Rates) (before after : List (List Float)) (next : Lanes) (forcing : List Float)
    → RatesOf k rates.dt rates.sqrt_dt rates
    → LanesMoved k.n forcing rates.divisors k.weights before after next.z
    → ((l : ℕ) → l < 4 → get_or forcing l nan ≡ forcing_of p rates.dt (get_or s.z l nan) (diffusion_of rates.sqrt_dt (get_or roots l nan) (get_or g l nan)))
    → ((l : ℕ) → l < 4 → get_or next.spot l nan ≡ plus (get_or s.spot l nan) (times (get_or s.spot l nan) (diffusion_of rates.sqrt_dt (get_or roots l nan) (get_or g l nan))))
    → ((l : ℕ) → l < 4 → get_or next.variance l nan ≡ variance_at p (get_or next.z l nan))
    → ((l : ℕ) → l < 4 → get_or next.lowest l nan ≡ smaller (get_or s.lowest l nan) (get_or next.spot l nan))
    → LanesStepped roots k p s g rates before after next
lanes_stepped roots k p s g rates before after next forcing own m f q v b =
    record {
      lane = λ l h e. lane_step k p s rates forcing before after next.z own m l h (get_or roots l nan) (get_or g l nan) _ _ _ e (f l h) (q l h) (v l h) (b l h);
    }
