-- The plain walk of one path, where it stops, and what is claimed of its states. Definitions only.
use Rattle.std.specs.Prelude.{◌≡◌, true, ℕ, zero, suc, ◌≤◌, ◌<◌, get_or, Float}
use Rattle.std.specs.Prelude.{Ok, Err}
use Rattle.std.proofs.Math.Option.{Option, none, some}
use Rattle.std.specs.Float.{nan}
use Rattle.std.specs.Float.Ieee.{le}
use Rattle.numeric.specs.Double.{finite}
use Rattle.refusal.specs.declared.Quantity.{Quantity}
use Rattle.model.specs.declared.Simulation.{Simulation}
use Rattle.model.specs.declared.State.{State}
use Rattle.model.specs.Step.{step, Finiteness, finiteness}
use Rattle.model.specs.First.{first_some}
use Rattle.model.specs.TimeGrid.{dt_at, sqrt_dt_at}

-- Rule 7.1: what a path walks on; `draw k` is the draw of its step k, counted from 1
pub record Walk : Type 0 where
  pub simulation : Simulation
  pub draw : ℕ → Float

-- Rule 7.4: the state after k steps, whatever it holds
unfoldable pub state_after : Walk → ℕ → State
unfolding step dt_at sqrt_dt_at
state_after w zero = w.simulation.start
state_after w (suc k) =
    let m = w.simulation in
    step m.kernel m.params (state_after w k) (w.draw (suc k)) (dt_at m.grid (suc k))
    (sqrt_dt_at m.grid (suc k))

-- Rule 7.6: the step at which a path stops, and what is not finite there
pub record Stop : Type 0 where
  pub step : ℕ
  pub quantity : Quantity

-- Rule 7.6: a stop at step k, where its state is not finite
abbrev pub stop_here : ℕ → Finiteness → Option Stop
stop_here k (Ok _) = none
stop_here k (Err q) = some (record { step = k; quantity = q })

-- Rule 7.6: the stop among its first n steps
unfoldable pub stop_within : Walk → ℕ → Option Stop
unfolding state_after finiteness first_some
stop_within w n = first_some (λ k. stop_here k (finiteness (state_after w k))) n

-- Rule 16.2: what is written where there is no stop, and what was lent where there is one
abbrev pub unless_stopped : {A : Type 0} → Option A → Float → Float → Float
unless_stopped none written lent = written
unless_stopped (some stop) written lent = lent

-- Rule 7.7: the lowest spot after k steps is the spot at some point from the start to step k, and
-- at most the spot at every such point
pub record LowestSpot (w : Walk) (k : ℕ) : Type 0 where
  pub at : ℕ
  pub is_point : at ≤ k
  pub is_spot : (state_after w k).lowest ≡ (state_after w at).spot
  pub at_most : (j : ℕ) → j ≤ k → le (state_after w k).lowest (state_after w j).spot ≡ true

-- Rule 18.6: what is claimed of every state of a plain walk but the one it stops with
pub record Sound (m : Simulation) (s : State) : Type 0 where
  pub spot : finite s.spot ≡ true
  pub z : finite s.z ≡ true
  pub variance : finite s.variance ≡ true
  pub factor : (i : ℕ) → i < m.kernel.n → finite (get_or s.factors i nan) ≡ true
  pub lowest : finite s.lowest ≡ true
  pub at_least_c : le m.params.c s.variance ≡ true
