-- What the code is handed, in arrays of which the first places are in use, and the batch that it
-- stands for. Assumes nothing.
use mathlib.Core.Path.{◌≡◌, refl, sym, ◌∙◌}
use mathlib.Core.Bool.{Bool, true, false}
use Prim.Native.Nat.{ℕ, suc, ◌/◌, ◌%◌, ◌<◌, ◌≤◌}
use native.Mathlib.Nat.{le_refl}
use native.Mathlib.Omega.{arith}
use lib.ListN.{get_or}
use lib.Ieee.{Float, nan}
use Rattle.model.specs.declared.Kernel.{Kernel}
use Rattle.model.specs.declared.Params.{Params}
use Rattle.model.specs.declared.Rates.{Rates}
use Rattle.model.specs.declared.TimeGrid.{TimeGrid}
use Rattle.model.specs.declared.State.{State}
use Rattle.model.specs.Inner.Laid.{Laid}
use Rattle.model.specs.Inner.Rates.{RatesOf}
use Rattle.model.specs.TimeGrid.{dt_at, sqrt_dt_at}
use Rattle.model.specs.Inner.InUse.{grid_in_use}
use Rattle.model.specs.Step.{step, finiteness}
use Rattle.model.specs.Inner.InUse.{state_in_use}
use Rattle.model.proofs.Containment.{Reached, reached_in_use, dt_reached, sqrt_dt_reached}
use Rattle.vix.proofs.InUse.{squared_in_use}
use Rattle.walks.specs.declared.Observation.{Observation}
use Rattle.walks.specs.declared.Observation.TheVariants.{Spot, VixSquared}
use Rattle.walks.specs.Batch.{draw_place, draws_needed}
use Rattle.walks.specs.Inner.Handed.{factors_read, observe_by}
use Rattle.walks.proofs.Cells.{row_last}

-- the code's 0.0
pub finite_in_use : (n : ℕ) (s : State) → finiteness (state_in_use n s) ≡ finiteness s
unfolding finiteness
finite_in_use n s = refl

-- the draws of a path are among those lent
pub draws_within : (mirrored : Bool) (paths total path : ℕ) → (mirrored ≡ true → paths % 2 ≡ 0) → path < paths → draw_place mirrored total (suc path) (suc total) ≤ draws_needed mirrored paths total
draws_within false paths total path even p = row_last path paths total total p (le_refl total)
draws_within true paths total path even p =
    row_last (path / 2) (paths / 2) total total (omega (arith, even refl)) (le_refl total)

-- an observation reads the factors in use
pub observed_in_use : (o : Observation) (n : ℕ) → factors_read o ≤ n → (s : State) → observe_by o (state_in_use (factors_read o) s) ≡ observe_by o (state_in_use n s)
observed_in_use Spot n h s = refl
observed_in_use (VixSquared v) n h s =
    squared_in_use v v.n (omega arith) s.factors ∙ sym (squared_in_use v n h s.factors)

step_with : (k : Kernel) (p : Params) (s : State) {g g' dt dt' root root' : Float} → g ≡ g' → dt ≡ dt' → root ≡ root' → step k p s g dt root ≡ step k p s g' dt' root'
step_with k p s a b c = rw (a, b, c)

-- a step with the rates of the segment that is still to end is the step of the plain walk
pub step_in_use : (sc : TimeGrid) → Laid sc → (segment at : ℕ) → Reached (grid_in_use sc) segment at → segment < sc.count → (k : Kernel) (rates : Rates) → RatesOf k (get_or sc.dt segment nan) (get_or sc.sqrt_dt segment nan) rates → (k' : Kernel) (p : Params) (s s' : State) (g g' : Float) → g ≡ g' → s' ≡ step k' p s g rates.dt rates.sqrt_dt → s' ≡ step k' p s g' (dt_at (grid_in_use sc) (suc at)) (sqrt_dt_at (grid_in_use sc) (suc at))
step_in_use sc laid segment at h l k rates r k' p s s' g g' e q =
    q
    ∙ step_with k' p s e
    (r.dt_is ∙ sym (dt_reached sc laid segment at (reached_in_use sc segment at h) l))
    (r.sqrt_dt_is ∙ sym (sqrt_dt_reached sc laid segment at (reached_in_use sc segment at h) l))
