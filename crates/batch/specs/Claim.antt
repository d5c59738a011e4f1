-- Rule 18.3: the claim of a batch, which is one claim about the whole batch with its list of draws.
-- It is said of the answer as it crosses the edge and of the table after the call, and speaks of
-- the plain walks, the schedule and the payoff alone, not of how the paths are run. At a field
-- stands which wrong cores it excludes: crates/figures/specs/Excluded.antt proves it, each by that
-- field. Definitions only.
use Rattle.std.specs.Prelude.{◌≡◌, true, List, [], ◌∷◌, ◌↔◌, ℕ, pred, length, get_or, Float}
use Rattle.std.specs.Prelude.{◌+◌, ◌*◌, ◌<◌, ◌≤◌}
use Rattle.std.specs.Prelude.{Ok, Err}
use Rattle.std.specs.Float.{nan}
use Rattle.numeric.specs.Double.{plus_zero}
use Rattle.refusal.specs.declared.Quantity.{Quantity}
use Rattle.refusal.specs.declared.Refusal.{Refusal}
use Rattle.refusal.specs.Refusal.{quantity_number, number_of, place_of, no_place}
use Rattle.model.specs.declared.State.{State}
use Rattle.model.specs.Step.{step, finiteness, finite_state}
use Rattle.model.specs.TimeGrid.{last_step, contains}
use Rattle.model.specs.Walk.{state_after, LowestSpot, Sound}
use Rattle.walks.specs.declared.Observed.{Observed}
use Rattle.walks.specs.declared.Observed.TheVariants.{Spot, VixSquared}
use Rattle.walks.specs.Batch.{Batch, walk_of}
use Rattle.estimates.specs.declared.Payoff.{Payoff}
use Rattle.batch.specs.declared.Report.{Report}
use Rattle.batch.specs.Report.{Priced, reported, report_with}

-- ---- the answer as it crosses the edge

-- Rule 18.4: number and place, 0 and no place where the batch is priced; the four estimates in
-- reported order; the paths, with the non-positive ones where they are reported; the steps taken
pub record BatchAnswer : Type 0 where
  pub number : ℕ
  pub place : List ℕ
  pub doubles : List Float
  pub counts : List ℕ
  pub steps : ℕ

-- Rule 18.8: a vanilla batch reports paths and non-positive paths, a VIX batch paths
abbrev pub counts_of : Observed → ℕ → ℕ → List ℕ
counts_of Spot paths non_positive = paths ∷ non_positive ∷ []
counts_of VixSquared paths non_positive = paths ∷ []

-- Rule 17.1: at a refusal the values are zeros
abbrev pub no_doubles : List Float
no_doubles = plus_zero ∷ plus_zero ∷ plus_zero ∷ plus_zero ∷ []

-- Rule 17.1: of a refusal
abbrev pub refused_answer : Observed → ℕ → Refusal → BatchAnswer
refused_answer observed steps refusal =
    record {
      number = number_of refusal;
      place = place_of refusal;
      doubles = no_doubles;
      counts = counts_of observed 0 0;
      steps = steps;
    }

-- Rule 17.2: of a report
abbrev pub priced_answer : Observed → Report → BatchAnswer
priced_answer observed r =
    let e = r.estimates in
    record {
      number = 0;
      place = no_place;
      doubles =
          e.payoff.mean ∷ e.payoff.error ∷ e.underlying.mean ∷ e.underlying.error ∷ [];
      counts = counts_of observed r.paths r.non_positive;
      steps = r.steps;
    }

-- Rules 17.1 and 17.2: of each case of a price
abbrev pub answer_of : Batch → Priced → BatchAnswer
answer_of b (Ok report) = priced_answer b.observed report
answer_of b (Err r) = refused_answer b.observed r.steps r.refusal

-- ---- the plain walks

-- Rule 18.5: i is one of 1, .. n: paths, steps and segments count from 1
pub record OneTo (n i : ℕ) : Type 0 where
  pub from : 1 ≤ i
  pub upto : i ≤ n

-- Rule 18.5: the state of path p after k steps of its plain walk
abbrev pub state_of : Batch → ℕ → ℕ → State
state_of b p k = state_after (walk_of b p) k

-- Rule 18.7: spot, z and variance of path p are finite after step k
abbrev pub FiniteAt : Batch → ℕ → ℕ → Type 0
FiniteAt b p k = finiteness (state_of b p k) ≡ finite_state

-- Rule 18.5: step k of path p goes from the state before it, with the path's draw k and with dt and
-- sqrt_dt of the only segment that contains it
pub record StepTaken (b : Batch) (p k : ℕ) : Type 0 where
  pub segment : ℕ
  pub is_segment : OneTo b.simulation.grid.count segment
  pub contained : contains b.simulation.grid segment k ≡ true
  pub only :
      (j : ℕ) → OneTo b.simulation.grid.count j → contains b.simulation.grid j k ≡ true
      → j ≡ segment
  pub goes :
      state_of b p k
      ≡ step b.simulation.kernel b.simulation.params (state_of b p (pred k)) (b.draw p k)
      (get_or b.simulation.grid.dt (pred segment) nan)
      (get_or b.simulation.grid.sqrt_dt (pred segment) nan)

-- Rules 18.5 and 18.6: what the states are that the rest of the claim speaks of
pub record PlainWalks (b : Batch) : Type 0 where
  -- no path starts where another ended
  pub starts : (p : ℕ) → state_of b p 0 ≡ b.simulation.start
  -- no step is taken again in the next segment, or with its dt
  pub steps :
      (p k : ℕ) → OneTo b.paths p → OneTo b.simulation.grid.total k → StepTaken b p k
  -- of every state, the start included and only the one that a path stops with left out: none goes
  -- on from a factor that is not finite, a lowest spot that is not finite, or a variance below c
  pub sound :
      (p k : ℕ) → OneTo b.paths p → k ≤ b.simulation.grid.total
      → ((j : ℕ) → 1 ≤ j → j ≤ k → FiniteAt b p j) → Sound b.simulation (state_of b p k)
  -- of the same states: the lowest spot that a path carries is the lowest since its start
  pub lowest :
      (p k : ℕ) → OneTo b.paths p → k ≤ b.simulation.grid.total
      → ((j : ℕ) → 1 ≤ j → j ≤ k → FiniteAt b p j) → LowestSpot (walk_of b p) k

-- ---- the stop

-- Rule 18.7: some step of the plain walk on some path gives a spot, z or variance that is not
-- finite
pub record SomeStepFails (b : Batch) : Type 0 where
  pub path : ℕ
  pub is_path : OneTo b.paths path
  pub step : ℕ
  pub is_step : OneTo b.simulation.grid.total step
  pub fails : FiniteAt b path step → ⊥

-- Rule 18.7: each step of the paths before p is finite
abbrev pub FiniteBefore : Batch → ℕ → Type 0
FiniteBefore b p = (r k : ℕ) → 1 ≤ r → r < p → OneTo b.simulation.grid.total k → FiniteAt b r k

-- Rule 18.7: the first such path p, its first such step k of N and the first of the three
pub record FirstFailure (b : Batch) (p k : ℕ) (q : Quantity) : Type 0 where
  pub is_path : OneTo b.paths p
  pub is_step : OneTo b.simulation.grid.total k
  pub fails : finiteness (state_of b p k) ≡ Err q
  pub first_step : (j : ℕ) → 1 ≤ j → j < k → FiniteAt b p j
  pub first_path : FiniteBefore b p

-- Rule 18.7: they are named, and (p - 1) × N + k steps are taken
pub record NamesFirst (b : Batch) (answer : BatchAnswer) : Type 0 where
  pub path : ℕ
  pub step : ℕ
  pub quantity : Quantity
  pub first : FirstFailure b path step quantity
  pub taken : answer.steps ≡ pred path * b.simulation.grid.total + step
  pub named : answer.place ≡ path ∷ step ∷ quantity_number quantity ∷ answer.steps ∷ []
  pub doubles_none : answer.doubles ≡ no_doubles
  pub no_counts : answer.counts ≡ counts_of b.observed 0 0

-- ---- what the batch reports

-- Rule 18.8: what is made of the states that the paths end with, after N steps, their lowest spots
-- among it, and of how many paths were non-positive; and paths × N steps are taken
unfoldable pub report_of : Batch → Payoff → BatchAnswer
unfolding state_after reported report_with
report_of b payoff =
    let total = b.simulation.grid.total in
    reported b.observed b.mirrored payoff (λ p. b.observe (state_of b p total))
    (λ p. (state_of b p total).lowest) b.paths (refused_answer b.observed (b.paths * total))
    (λ estimates. priced_answer b.observed (report_with b estimates))

-- ---- the observation table

-- Rule 18.9: path p, no path before it having stopped, reaches the end of segment j with finite
-- spot, z and variance
pub record Reaches (b : Batch) (p j : ℕ) : Type 0 where
  pub steps : (k : ℕ) → 1 ≤ k → k ≤ last_step b.simulation.grid j → FiniteAt b p k
  pub paths : FiniteBefore b p

-- Rule 18.9: a row a path, a column a segment
abbrev pub entry : Batch → List Float → ℕ → ℕ → Float
entry b table p j = get_or table (pred p * b.simulation.grid.count + pred j) nan

-- Rule 18.9: what the table holds after the batch
pub record Written (b : Batch) (lent after : List Float) : Type 0 where
  pub long : length after ≡ length lent
  -- Excludes a core that writes no observation, and one that works the first step and repeats that
  -- state.
  pub observed :
      (p j : ℕ) → OneTo b.paths p → OneTo b.simulation.grid.count j → Reaches b p j
      → entry b after p j ≡ b.observe (state_of b p (last_step b.simulation.grid j))
  -- the rest of the table; excludes a core that writes at the stop
  pub untouched :
      (p j : ℕ) → OneTo b.paths p → OneTo b.simulation.grid.count j → (Reaches b p j → ⊥)
      → entry b after p j ≡ entry b lent p j

-- ---- the claim

-- Rule 18.3: of the batch b and its payoff, the table as lent and after it, and its answer
pub record BatchClaim
    (b : Batch) (payoff : Payoff) (lent after : List Float) (answer : BatchAnswer)
    : Type 0 where
  pub walks : PlainWalks b
  -- Excludes a core that refuses everything, reporting non-finite though no step is, and one that
  -- goes past a step that is not finite.
  pub exactly : (answer.number ≡ 22) ↔ SomeStepFails b
  -- Excludes a core that reports non-finite before the first step, one that names another path,
  -- step or quantity, and one that invents the steps taken up to a stop.
  pub names : answer.number ≡ 22 → NamesFirst b answer
  -- Excludes a core with a fixed price, one that pays a put whose path touched its barrier inside a
  -- segment, one that invents the step total, and one that refuses a batch that goes through by any
  -- number, but for what its plain walks come to.
  pub otherwise : (SomeStepFails b → ⊥) → answer ≡ report_of b payoff
  pub written : Written b lent after
