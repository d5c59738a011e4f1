-- The invariant of four paths side by side, over any batch, what each turn does to it, and what it
-- says at the end. Assumes nothing.
use mathlib.Core.Path.{◌≡◌, sym, ap, ◌∙◌, subst}
use mathlib.Core.List.{List}
use mathlib.Core.Logic.{⊎_elim}
use Prim.Native.Nat.{ℕ, suc, ◌+◌, ◌*◌, ◌<◌, ◌≤◌}
use native.Mathlib.Numerals.{add-one}
use native.Mathlib.Omega.{arith}
use lib.Ieee.{Float, nan}
use lib.ListN.{get_or}
use Rattle.lanes.specs.declared.Lanes.{Lanes}
use Rattle.model.specs.declared.State.{State}
use Rattle.model.specs.Step.{step, finiteness}
use Rattle.model.specs.Inner.InUse.{state_in_use}
use Rattle.numeric.proofs.Tables.{take_is_tabulate}
use Rattle.model.specs.TimeGrid.{last_step, dt_at, sqrt_dt_at}
use Rattle.model.specs.Inner.Laid.{Laid}
use Rattle.lanes.specs.Inner.Lanes.{factor_at, lane_of, AllAt, Spread, FiniteLane}
use Rattle.model.specs.Walk.{state_after}
use Rattle.model.proofs.First.{split}
use Rattle.model.proofs.FiniteStates.{parts_finite}
use Rattle.walks.proofs.Absorbing.{never_stopped}
use Rattle.model.proofs.Containment.{Reached, reached_none, reached_open, reached_shut, reached_next, reached_on}
use Rattle.walks.specs.Batch.{Batch, walk_of, observation}
use Rattle.groups.specs.Inner.Group.{FourWalked}

-- the cells of the four rows up to `segment`
abbrev pub RowsFilled : Batch → ℕ → ℕ → List Float → Type 0
RowsFilled b path segment rows = (l j : ℕ) → l < 4 → j < segment → get_or rows (l * b.simulation.grid.count + j) nan ≡ observation b (suc (path + l)) (suc j)

-- at the head of the loop: `at` steps of paths path + 1 to path + 4 are walked, and their rows are
-- filled up to `segment`
pub record Beside (b : Batch) (n path : ℕ) (segment at : ℕ) (s : Lanes) (factors : List (List Float)) (rows : List Float) : Type 0 where
  pub most : at ≤ b.simulation.grid.total
  pub reached : Reached b.simulation.grid segment at
  pub state : (l : ℕ) → l < 4 → lane_of n s factors l ≡ state_after (walk_of b (suc (path + l))) at
  pub filled : RowsFilled b path segment rows

-- the loop begins
pub beside_first : (b : Batch) → Laid b.simulation.grid → (n path : ℕ) (s : Lanes) (factors : List (List Float)) (rows : List Float) → ((l : ℕ) → l < 4 → lane_of n s factors l ≡ b.simulation.start) → Beside b n path 0 0 s factors rows
unfolding state_after
beside_first b ok n path s factors rows state =
    record {
      most = omega arith;
      reached = reached_none b.simulation.grid ok;
      state = state;
      filled = λ l j h k. absurd (omega arith);
    }

module _ {b : Batch} (ok : Laid b.simulation.grid) {n path segment at : ℕ} {s : Lanes} {factors : List (List Float)} {rows : List Float} (h : Beside b n path segment at s factors rows) where
  module _ (k : at < b.simulation.grid.total) (s' : Lanes) (factors' : List (List Float))
      (e : (l : ℕ) → l < 4 → lane_of n s' factors' l ≡ step b.simulation.kernel b.simulation.params (lane_of n s factors l) (b.draw (suc (path + l)) (suc at)) (dt_at b.simulation.grid (suc at)) (sqrt_dt_at b.simulation.grid (suc at))) where
    next_state : (l : ℕ) → l < 4 → lane_of n s' factors' l ≡ state_after (walk_of b (suc (path + l))) (suc at)
    unfolding state_after
    next_state l m = e l m ∙ ap (λ (x : State). step b.simulation.kernel b.simulation.params x (b.draw (suc (path + l)) (suc at)) (dt_at b.simulation.grid (suc at)) (sqrt_dt_at b.simulation.grid (suc at))) (h.state l m)

    -- a step that ends no segment
    pub beside_on : (at + 1 ≡ last_step b.simulation.grid (suc segment) → ⊥) → Beside b n path segment (at + 1) s' factors' rows
    beside_on ne =
        let here : segment < b.simulation.grid.count = reached_open b.simulation.grid ok segment at h.reached k in
        record {
          most = omega arith;
          reached = reached_on b.simulation.grid ok segment at h.reached here ne;
          state = λ l m. rw add-one (next_state l m);
          filled = h.filled;
        }

    -- a step that ends a segment, whose column is written
    pub beside_write : at + 1 ≡ last_step b.simulation.grid (suc segment) → (rows' : List Float) → ((l : ℕ) → l < 4 → get_or rows' (l * b.simulation.grid.count + segment) nan ≡ b.observe (lane_of n s' factors' l)) → ((l j : ℕ) → l < 4 → j < b.simulation.grid.count → (j ≡ segment → ⊥) → get_or rows' (l * b.simulation.grid.count + j) nan ≡ get_or rows (l * b.simulation.grid.count + j) nan) → Beside b n path (segment + 1) (at + 1) s' factors' rows'
    unfolding observation
    beside_write q rows' new kept =
        let here : segment < b.simulation.grid.count = reached_open b.simulation.grid ok segment at h.reached k in
        let q' : suc at ≡ last_step b.simulation.grid (suc segment) = rw add-one at q in
        record {
          most = omega arith;
          reached = reached_next b.simulation.grid ok segment at h.reached here q;
          state = λ l m. rw add-one (next_state l m);
          filled = λ l j m i.
              ⊎_elim (λ (z : j < segment). kept l j m (omega arith) (λ (y : j ≡ segment). absurd (omega arith)) ∙ h.filled l j m z)
              (λ (z : segment ≤ j).
              let t : j ≡ segment = omega arith in
              subst (λ (x : ℕ). get_or rows' (l * b.simulation.grid.count + x) nan ≡ b.observe (state_after (walk_of b (suc (path + l))) (last_step b.simulation.grid (suc x)))) (sym t)
              (new l m ∙ ap b.observe (next_state l m ∙ ap (state_after (walk_of b (suc (path + l)))) q')))
              (split j segment);
        }

  -- the loop ends
  module _ (k : b.simulation.grid.total ≤ at) where
    all : at ≡ b.simulation.grid.total
    all = omega (arith, h.most)

    pub beside_done : ((l : ℕ) → l < 4 → FiniteLane s l) → FourWalked b path rows s.lowest
    beside_done f =
        record {
          going = λ l m.
              never_stopped (walk_of b (suc (path + l))) b.simulation.grid.total
              (ap finiteness (sym (h.state l m ∙ ap (state_after (walk_of b (suc (path + l)))) all)) ∙ parts_finite (lane_of n s factors l) (f l m).spot (f l m).z (f l m).variance);
          least = λ l m. ap (λ (x : State). x.lowest) (h.state l m ∙ ap (state_after (walk_of b (suc (path + l)))) all);
          seen = λ l j m i. h.filled l j m (omega (arith, reached_shut b.simulation.grid ok segment at h.reached k));
        }

-- every lane at the start
pub lane_at_start : (n : ℕ) (start : State) (s : Lanes) (factors : List (List Float)) → AllAt start s → Spread n start.factors factors → (l : ℕ) → l < 4 → lane_of n s factors l ≡ state_in_use n start
lane_at_start n start s factors a f l h =
    rw (a.spot l h, a.z l h, a.variance l h, a.lowest l h, sym (take_is_tabulate nan n (λ (i : ℕ). factor_at factors i l) start.factors f.enough (λ i j. sym (f.new i l j h))))
