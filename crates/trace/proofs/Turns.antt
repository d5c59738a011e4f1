-- One turn of a trace: the next state is the plain walk's, and what a stop and the last step
-- answer. Assumes nothing.
use mathlib.Core.Path.{◌≡◌, refl, sym, ap, subst, ◌∙◌}
use mathlib.Core.List.{List}
use mathlib.Core.Option.{none}
use Prim.Native.Nat.{ℕ, suc, ◌+◌, ◌≤◌, ◌<◌}
use native.Mathlib.Numerals.{add-one}
use native.Mathlib.Omega.{arith}
use lib.ListN.{length, get_or}
use lib.Ieee.{Float, nan}
use Rattle.refusal.specs.declared.Quantity.{Quantity}
use Rattle.refusal.specs.declared.Quantity.TheVariants.{Spot}
use Rattle.model.specs.declared.Simulation.{Simulation}
use Rattle.model.specs.declared.Kernel.{Kernel}
use Rattle.model.specs.declared.Params.{Params}
use Rattle.model.specs.declared.State.{State}
use Rattle.model.specs.declared.Rates.{Rates}
use Rattle.model.specs.declared.TimeGrid.{TimeGrid}
use Rattle.std.specs.Prelude.{Ok, Err}
use Rattle.model.specs.Step.{step, finiteness, finite_state}
use Rattle.model.specs.TimeGrid.{dt_at}
use Rattle.model.specs.Walk.{Walk, state_after, stop_within}
use Rattle.model.specs.Inner.InUse.{kernel_in_use, state_in_use, grid_in_use, simulation_in_use}
use Rattle.model.specs.Inner.Rates.{RatesOf}
use Rattle.model.specs.Inner.Laid.{Laid}
use Rattle.model.proofs.Containment.{Reached, reached_none, reached_open, reached_next, reached_on}
use Rattle.model.proofs.Containment.{dt_reached, sqrt_dt_reached}
use Rattle.model.proofs.Stops.{stop_at, stop_goes, stop_ends, stop_none}
use Rattle.trace.specs.Trace.{Tables, trace_walk, answer_of, trace_answer, tables_after}
use Rattle.trace.specs.Inner.Points.{Sized, PointWritten}
use Rattle.trace.proofs.Points.{AllThrough, all_none, all_next, all_end}

-- a step with the draw that was taken
pub at_draw :
    (k : Kernel) (p : Params) (s : State) (dt root : Float) {g g' : Float} {s' : State} → g ≡ g'
    → s' ≡ step k p s g dt root → s' ≡ step k p s g' dt root
at_draw k p s dt root drawn e = e ∙ ap (λ (d : Float). step k p s d dt root) drawn

abbrev pub walk_in : Simulation → List Float → Walk
walk_in m draws = trace_walk (simulation_in_use m) draws

-- what is known of the simulation and of the lent tables
pub record Prepared (m : Simulation) (lent : Tables) : Type 0 where
  pub one : 1 ≤ m.kernel.n
  pub laid : Laid m.grid
  pub size : Sized m.grid.total m.kernel.n lent

module _ (m : Simulation) (draws : List Float) (lent : Tables) where
  abbrev w : Walk
  w = walk_in m draws

  abbrev n : ℕ
  n = m.kernel.n

  abbrev sc : TimeGrid
  sc = m.grid

  abbrev total : ℕ
  total = sc.total

  -- the rates of a segment, counted from 0
  abbrev Rated : ℕ → Rates → Type 0
  Rated segment rates =
      RatesOf m.kernel (get_or sc.dt segment nan)
      (get_or sc.sqrt_dt segment nan) rates

  -- at the loop's head `at` steps are walked, none of which stopped, and the points before `at` are
  -- written
  pub record Walked (t : Tables) (s : State) (segment : ℕ) (rates : Rates) (at : ℕ) : Type 0 where
    pub most : at ≤ total
    pub reached : Reached sc segment at
    pub rated : Rated segment rates
    pub state : state_in_use n s ≡ state_after w at
    pub going : stop_within w at ≡ none
    pub points : AllThrough w n lent t at

  module _ (prepared : Prepared m lent) where
    pub walked_none :
        (rates : Rates) → Rated 0 rates
        → Walked lent m.start 0 rates 0
    unfolding state_after stop_within
    walked_none rates r =
        record {
          most = omega arith;
          reached = reached_none sc prepared.laid;
          rated = r;
          state = refl;
          going = refl;
          points = all_none w n total lent prepared.one prepared.size;
        }

    module _
        {t : Tables}
        {s : State}
        {segment : ℕ}
        {rates : Rates}
        {at : ℕ}
        (h : Walked t s segment rates at)
      where
        -- point `at` is written
        pub point_written :
            (t' : Tables) → PointWritten n s at t t' → length t'.factors ≡ length t.factors
            → AllThrough w n lent t' (at + 1)
        point_written t' new same =
            all_next w n total lent prepared.one prepared.size t t' s at h.most h.points
            new same h.state

        going_before : (j : ℕ) → j < at + 1 → stop_within w j ≡ none
        going_before j b = stop_none w j at (omega arith) h.going

        -- the last point is written
        pub done_answer : at ≡ total → Ok total ≡ trace_answer w
        unfolding trace_answer
        done_answer e =
            let none-stops = subst (λ (j : ℕ). stop_within w j ≡ none) e h.going in
            rw (none-stops, answer_of) refl

        pub done_tables :
            (t' : Tables) → at ≡ total → AllThrough w n lent t' (at + 1) → t' ≡ tables_after w lent
        done_tables t' e all =
            all_end w n total lent prepared.one prepared.size (at + 1) (stop_at 0 Spot)
            going_before (λ j a b. absurd (omega arith)) t' refl all

        -- a step
        module _
            (b : at < total)
            (s' : State)
            (e :
            state_in_use n s'
            ≡ step (kernel_in_use m.kernel) m.params (state_in_use n s) (get_or draws at nan)
            rates.dt rates.sqrt_dt)
          where
            abbrev stepped : State → Float → Float → State
            stepped x dt root =
                step (kernel_in_use m.kernel) m.params x (get_or draws at nan) dt root

            inside : segment < sc.count
            inside = reached_open sc prepared.laid segment at h.reached b

            dt_here : rates.dt ≡ dt_at (grid_in_use sc) (suc at)
            dt_here =
                h.rated.dt_is
                ∙ sym (dt_reached sc prepared.laid segment at h.reached inside)

            next_state : state_in_use n s' ≡ state_after w (suc at)
            unfolding state_after
            next_state =
                e ∙ ap (λ (x : State). stepped x rates.dt rates.sqrt_dt) h.state
                ∙ ap (λ (d : Float). stepped (state_after w at) d rates.sqrt_dt) dt_here
                ∙ ap (stepped (state_after w at) (dt_at (grid_in_use sc) (suc at)))
                (h.rated.sqrt_dt_is
                ∙ sym (sqrt_dt_reached sc prepared.laid segment at h.reached inside))

            next_finiteness : finiteness s' ≡ finiteness (state_after w (suc at))
            unfolding finiteness
            next_finiteness = ap finiteness next_state

            -- that is not finite
            module _ (q : Quantity) (f : finiteness s' ≡ Err q) where
              fails : finiteness (state_after w (suc at)) ≡ Err q
              fails = sym next_finiteness ∙ f

              pub stop_answer : Err (record { step = at + 1; quantity = q }) ≡ trace_answer w
              unfolding trace_answer
              stop_answer =
                  rw (stop_ends w at q h.going fails total b, answer_of)
                  (ap (λ (j : ℕ). Err (record { step = j; quantity = q })) (add-one at))

              pub stop_tables :
                  (t' : Tables) → AllThrough w n lent t' (at + 1) → t' ≡ tables_after w lent
              stop_tables t' all =
                  all_end w n total lent prepared.one prepared.size (at + 1)
                  (stop_at (suc at) q) going_before
                  (λ j a c. stop_ends w at q h.going fails j (omega arith)) t' refl all

            -- that is finite
            module _
                (f : finiteness s' ≡ finite_state)
                (t' : Tables)
                (all : AllThrough w n lent t' (at + 1))
              where
                walked_next :
                    (segment' : ℕ) (rates' : Rates) → Reached sc segment' (at + 1)
                    → Rated segment' rates'
                    → Walked t' s' segment' rates' (at + 1)
                walked_next segment' rates' reached r =
                    record {
                      most = omega arith;
                      reached = reached;
                      rated = r;
                      state = rw add-one next_state;
                      going = rw add-one (stop_goes w at h.going (sym next_finiteness ∙ f));
                      points = all;
                    }

                -- and ends no segment
                pub walked_inside :
                    (at + 1 ≡ get_or sc.last segment 0 → ⊥)
                    → Walked t' s' segment rates (at + 1)
                walked_inside inner =
                    walked_next segment rates
                    (reached_on sc prepared.laid segment at h.reached inside inner)
                    h.rated

                -- and ends its segment
                pub walked_across :
                    at + 1 ≡ get_or sc.last segment 0 → (rates' : Rates)
                    → Rated (segment + 1) rates'
                    → Walked t' s' (segment + 1) rates' (at + 1)
                walked_across last rates' r =
                    walked_next (segment + 1) rates'
                    (reached_next sc prepared.laid segment at h.reached inside last) r
