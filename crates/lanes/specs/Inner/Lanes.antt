-- Four states side by side, and what the functions that move them leave. Definitions only.
use Rattle.std.specs.Prelude.{◌≡◌, true, List, [], ℕ, ◌≤◌, ◌<◌, length, get_or, Float}
use Rattle.std.specs.Float.{nan, binary64}
use Rattle.numeric.specs.Double.{plus, over, finite}
use Rattle.numeric.specs.Root.{root}
use Rattle.numeric.specs.Table.{tabulate}
use Rattle.model.specs.declared.Kernel.{Kernel}
use Rattle.model.specs.declared.Rates.{Rates}
use Rattle.model.specs.declared.Params.{Params}
use Rattle.model.specs.declared.State.{State}
use Rattle.model.specs.Step.{weighted_sum, step}
use Rattle.model.specs.Inner.InUse.{kernel_in_use}
use Rattle.lanes.specs.declared.Lanes.{Lanes}

-- factor i of lane l of a table, which has a row for each factor
abbrev pub factor_at : List (List Float) → ℕ → ℕ → Float
factor_at factors i l = get_or (get_or factors i []) l nan

-- lane l of a table of n factors
abbrev pub lane_factors : ℕ → List (List Float) → ℕ → List Float
lane_factors n factors l = tabulate n (λ i. factor_at factors i l)

-- Rule 5.7: the state of lane l
abbrev pub lane_of : ℕ → Lanes → List (List Float) → ℕ → State
lane_of n s factors l =
    record {
      spot = get_or s.spot l nan;
      z = get_or s.z l nan;
      variance = get_or s.variance l nan;
      factors = lane_factors n factors l;
      lowest = get_or s.lowest l nan;
    }

-- Rule 7.4: every lane is at one state, but for its factors
pub record AllAt (start : State) (s : Lanes) : Type 0 where
  pub spot : (l : ℕ) → l < 4 → get_or s.spot l nan ≡ start.spot
  pub z : (l : ℕ) → l < 4 → get_or s.z l nan ≡ start.z
  pub variance : (l : ℕ) → l < 4 → get_or s.variance l nan ≡ start.variance
  pub lowest : (l : ℕ) → l < 4 → get_or s.lowest l nan ≡ start.lowest

-- Rule 7.4: and every lane has the first n of these factors
pub record Spread (n : ℕ) (values : List Float) (after : List (List Float)) : Type 0 where
  pub enough : n ≤ length values
  pub new : (i l : ℕ) → i < n → l < 4 → factor_at after i l ≡ get_or values i nan

-- Rule 7.3: the four factors of a row become (factor + forcing) / divisor
abbrev pub RowMoved : List Float → Float → List Float → List Float → Type 0
RowMoved forcing divisor before after =
    (l : ℕ) → l < 4
    → get_or after l nan ≡ over (plus (get_or before l nan) (get_or forcing l nan)) divisor

-- Rules 7.3 and 5.5: every factor is moved, and z has the sum of weight × factor of each lane
pub record LanesMoved (n : ℕ) (forcing divisors weights : List Float)
    (before after : List (List Float)) (z : List Float) : Type 0 where
  pub new : (i l : ℕ) → i < n → l < 4 → factor_at after i l
      ≡ over (plus (factor_at before i l) (get_or forcing l nan)) (get_or divisors i nan)
  pub sum : (l : ℕ) → l < 4 → get_or z l nan ≡ weighted_sum weights (lane_factors n after l) n

-- Rule 7.2: lane l takes a step of the scheme
abbrev pub LaneSteps : Kernel → Params → Lanes → List Float → Rates → List (List Float)
    → List (List Float) → Lanes → ℕ → Type 0
LaneSteps k p s g rates before after next l =
    lane_of k.n next after l
    ≡ step (kernel_in_use k) p (lane_of k.n s before l) (get_or g l nan) rates.dt
    rates.sqrt_dt

-- Rule 7.2: each lane takes a step where it is given the root of its variance
pub record LanesStepped (roots : List Float) (k : Kernel) (p : Params) (s : Lanes)
    (g : List Float) (rates : Rates) (before after : List (List Float)) (next : Lanes)
    : Type 0 where
  pub lane : (l : ℕ) → l < 4 → get_or roots l nan ≡ root binary64 (get_or s.variance l nan)
      → LaneSteps k p s g rates before after next l

-- Rule 7.5: the state of lane l is finite
pub record FiniteLane (s : Lanes) (l : ℕ) : Type 0 where
  pub spot : finite (get_or s.spot l nan) ≡ true
  pub z : finite (get_or s.z l nan) ≡ true
  pub variance : finite (get_or s.variance l nan) ≡ true
