-- What an admitted batch's run claims, from what it answers and leaves in the table. Assumes
-- nothing.
use mathlib.Core.Path.{◌≡◌, refl, sym, ◌∙◌, ap, subst}
use mathlib.Core.Bool.{true}
use mathlib.Core.Option.{Option, none, some}
use mathlib.Core.List.{List}
use Prim.Native.Nat.{ℕ, zero, suc, ◌+◌, ◌*◌, ◌<◌, ◌≤◌}
use native.Mathlib.Omega.{arith}
use lib.Arith.{digits_div, digits_mod}
use lib.Ieee.{Float, nan}
use lib.ListN.{length}
use Rattle.numeric.proofs.Tables.{length_tabulate, get_d_tabulate}
use Rattle.refusal.specs.declared.Quantity.{Quantity}
use Rattle.std.specs.Prelude.{Ok, Err}
use Rattle.model.specs.Step.{finiteness}
use Rattle.model.specs.TimeGrid.{last_step, contains, dt_at, sqrt_dt_at}
use Rattle.model.specs.Inner.Laid.{Laid}
use Rattle.model.specs.Walk.{Stop, state_after, stop_within}
use Rattle.model.specs.Inner.Admitted.{Admitted}
use Rattle.model.proofs.First.{none_some, none_at, none_all, first_at}
use Rattle.model.proofs.Stops.{StopsAt, stop_finite, finite_stop, stop_first}
use Rattle.model.proofs.Containment.{laid_in_use, contains_yes, segment_of_lem, segment_at_lem, segment_only}
use Rattle.model.proofs.FiniteStates.{walk_sound}
use Rattle.model.proofs.Lowest.{walk_lowest}
use Rattle.refusal.specs.declared.Refusal.{Refusal}
use Rattle.refusal.specs.Questions.{Question, first_no, once_asked}
use Rattle.model.specs.Inner.InUse.{simulation_in_use}
use Rattle.walks.specs.declared.Batch.{Batch as Handed}
use Rattle.walks.specs.Inner.Handed.{batch_of}
use Rattle.walks.specs.Batch.{Batch, walk_of, observation}
use Rattle.walks.proofs.Cells.{row_below}
use Rattle.estimates.specs.declared.Payoff.{Payoff}
use Rattle.estimates.specs.Inner.Tally.{tally_of}
use Rattle.estimates.proofs.Values.{SameUpTo}
use Rattle.paths.specs.declared.Walked.{Walked}
use Rattle.paths.specs.declared.Refused.{Refused}
use Rattle.batch.specs.Report.{Priced}
use Rattle.paths.specs.Run.{refusal_at, steps_at}
use Rattle.paths.specs.Run.{RunStop, on_path, run_stop, entry_after, table_after}
use Rattle.batch.specs.Report.{reported, refused_after, report_with, priced_at, priced_run}
use Rattle.batch.specs.Claim.{priced_answer, answer_of, OneTo, state_of, FiniteAt, StepTaken, PlainWalks}
use Rattle.batch.specs.Claim.{SomeStepFails, FiniteBefore, FirstFailure, report_of, Reaches}
use Rattle.batch.specs.Claim.{entry, Written, BatchClaim}
use Rattle.tally.specs.Inner.Rows.{last_observation}
use Rattle.paths.specs.Inner.Handed.{walked_of, run_at, run_answer, BatchRun}
use Rattle.batch.specs.Inner.Handed.{reported_of, priced_from, BatchPriced}
use Rattle.batch.proofs.Reporting.{reported_read, reported_other, reported_same, questions_same}
use Rattle.paths.proofs.Stops.{run_stop_at, entry_new, entry_run, entry_path}

-- ---- 1
module _ (b : Batch) (laid : Laid b.simulation.grid) where
  only :
      (k g : ℕ) → g < b.simulation.grid.count → last_step b.simulation.grid g < k
      → k ≤ last_step b.simulation.grid (suc g) → (j : ℕ) → OneTo b.simulation.grid.count j
      → contains b.simulation.grid j k ≡ true → j ≡ suc g
  only k g l lo hi zero i e = absurd (omega (arith, i.from))
  only k g l lo hi (suc j) i e = ap suc (segment_only b.simulation.grid laid g j k l i.upto lo hi e)

  step_of : (p k : ℕ) → OneTo b.simulation.grid.total k → StepTaken b p k
  unfolding state_after dt_at sqrt_dt_at
  step_of p zero h = absurd (omega (arith, h.from))
  step_of p (suc k) h =
      let r = segment_at_lem b.simulation.grid laid (suc k) h.from h.upto in
      record {
        segment = suc r.0;
        is_segment = record { from = omega arith; upto = r.1 };
        contained = contains_yes b.simulation.grid laid r.0 (suc k) r.2 r.3;
        only = only (suc k) r.0 r.1 r.2 r.3;
        goes = rw (segment_of_lem b.simulation.grid laid r.0 (suc k) r.1 r.2 r.3);
      }

-- ---- 2
path_none : (p : ℕ) (o : Option Stop) → on_path p o ≡ none → o ≡ none
path_none p none e = refl
path_none p (some x) e = absurd (none_some _ (sym e))

path_some :
    (p : ℕ) (o : Option Stop) (x : RunStop) → on_path p o ≡ some x
    → (x.path ≡ p) × (o ≡ some x.stop)
path_some p none x e = absurd (none_some x e)
path_some p (some y) x e =
    let same : run_stop_at p y ≡ x = cc in
    (ap (λ (z : RunStop). z.path) (sym same), ap (λ (z : RunStop). some z.stop) same)

module _ (b : Batch) where
  -- the stop of a path, if it has one
  abbrev stop_of : ℕ → Option RunStop
  stop_of p = on_path p (stop_within (walk_of b p) b.simulation.grid.total)

  -- a run goes on exactly where each step of its paths is finite
  run_finite : (n : ℕ) → run_stop b n ≡ none → FiniteBefore b (suc n)
  unfolding run_stop
  run_finite n e r k h l i =
      stop_finite (walk_of b r) b.simulation.grid.total
      (path_none r _ (none_at stop_of n r e h (omega arith))) k i.from i.upto

  finite_run : (n : ℕ) → FiniteBefore b (suc n) → run_stop b n ≡ none
  unfolding run_stop
  finite_run n h =
      none_all stop_of n
      (λ r l m.
      rw
      (finite_stop (walk_of b r) b.simulation.grid.total
      (λ k i j. h r k l (omega arith) (record { from = i; upto = j }))))

  -- and where it stops is the first failure
  run_first :
      (n : ℕ) (x : RunStop) → n ≤ b.paths → run_stop b n ≡ some x
      → FirstFailure b x.path x.stop.step x.stop.quantity
  unfolding run_stop
  run_first n x few e =
      let r = first_at stop_of n x e in
      let here = path_some r.0 _ x r.1.here in
      let stops : StopsAt (walk_of b x.path) b.simulation.grid.total x.stop =
      stop_first (walk_of b x.path) b.simulation.grid.total x.stop
      (subst (λ (p : ℕ). stop_within (walk_of b p) b.simulation.grid.total ≡ some x.stop)
      (sym here.0) here.1) in
      record {
        is_path =
            record {
              from = omega (arith, r.1.from, here.0);
              upto = omega (arith, r.1.upto, here.0);
            };
        is_step = record { from = stops.from; upto = stops.upto };
        fails = stops.fails;
        first_step = stops.earlier;
        first_path = λ p k h l i.
            stop_finite (walk_of b p) b.simulation.grid.total
            (path_none p _ (r.1.earlier p h (omega (arith, here.0)))) k i.from i.upto;
      }

  finite_apart :
      (p k : ℕ) (q : Quantity) → finiteness (state_of b p k) ≡ Err q → FiniteAt b p k → ⊥
  finite_apart p k q e f = let z : ◌≡◌ {A = ℕ} 0 1 = cc in omega arith

-- ---- 3
module _
    (b : Batch) (lent : List Float) (one : 1 ≤ b.simulation.grid.count)
    (rows : length lent ≡ b.paths * b.simulation.grid.count)
  where
    -- the entry of row p and column j
    entry_is :
        (q j : ℕ) → q < b.paths → j < b.simulation.grid.count
        → entry b (table_after b lent) (suc q) (suc j)
        ≡ entry_after b (suc q) (suc j) (entry b lent (suc q) (suc j))
    unfolding table_after
    entry_is q j h l =
        let n = b.simulation.grid.count in
        get_d_tabulate (length lent) (q * n + j) _ nan (rw rows (row_below q b.paths n j h l))
        ∙ rw (digits_div q l, digits_mod q l)

    reaches :
        (q j : ℕ) → run_stop b q ≡ none
        → stop_within (walk_of b (suc q)) (last_step b.simulation.grid j) ≡ none → Reaches b (suc q) j
    reaches q j h l =
        record {
          steps = stop_finite (walk_of b (suc q)) (last_step b.simulation.grid j) l;
          paths = run_finite b q h;
        }

    kept : (q j : ℕ) (x : Float) → (Reaches b (suc q) j → ⊥) → entry_after b (suc q) j x ≡ x
    kept q j x h =
        go (run_stop b q) (stop_within (walk_of b (suc q)) (last_step b.simulation.grid j)) refl refl
      where
        go :
            (o : Option RunStop) (s : Option Stop) → run_stop b q ≡ o
            → stop_within (walk_of b (suc q)) (last_step b.simulation.grid j) ≡ s
            → entry_after b (suc q) j x ≡ x
        go none none e f = absurd (h (reaches q j e f))
        go none (some y) e f = entry_path b q j x y e f
        go (some y) s e f = entry_run b q j x y e

    table_long : length (table_after b lent) ≡ length lent
    unfolding table_after
    table_long = length_tabulate (length lent) _

    observed :
        (p j : ℕ) → OneTo b.paths p → OneTo b.simulation.grid.count j → Reaches b p j
        → entry b (table_after b lent) p j ≡ observation b p j
    observed zero j h l r = absurd (omega (arith, h.from))
    observed (suc q) zero h l r = absurd (omega (arith, l.from))
    observed (suc q) (suc j) h l r =
        entry_is q j h.upto l.upto
        ∙ entry_new b q (suc j) _ (finite_run b q r.paths)
        (finite_stop (walk_of b (suc q)) _ r.steps)

    untouched :
        (p j : ℕ) → OneTo b.paths p → OneTo b.simulation.grid.count j → (Reaches b p j → ⊥)
        → entry b (table_after b lent) p j ≡ entry b lent p j
    untouched zero j h l r = absurd (omega (arith, h.from))
    untouched (suc q) zero h l r = absurd (omega (arith, l.from))
    untouched (suc q) (suc j) h l r = entry_is q j h.upto l.upto ∙ kept q (suc j) _ r

    written : Written b lent (table_after b lent)
    unfolding observation
    written = record { long = table_long; observed = observed; untouched = untouched }

-- ---- the claim
module _
    (b : Batch) (payoff : Payoff) (laid : Laid b.simulation.grid)
    (admitted : Admitted b.simulation) (lent : List Float)
    (rows : length lent ≡ b.paths * b.simulation.grid.count)
  where
    walks : PlainWalks b
    unfolding state_after
    walks =
        record {
          starts = λ p. refl;
          steps = λ p k h l. step_of b laid p k l;
          sound = λ p k h l. walk_sound (walk_of b p) admitted k;
          lowest = λ p k h l. walk_lowest (walk_of b p) admitted k;
        }

    abbrev Claimed : Priced → Type 0
    Claimed r = BatchClaim b payoff lent (table_after b lent) (answer_of b r)

    -- a batch that stops
    stopped :
        (x : RunStop) → FirstFailure b x.path x.stop.step x.stop.quantity
        → Claimed (priced_at b payoff (some x))
    stopped x first =
        let fails : SomeStepFails b =
        record {
          path = x.path;
          is_path = first.is_path;
          step = x.stop.step;
          is_step = first.is_step;
          fails = finite_apart b x.path x.stop.step x.stop.quantity first.fails;
        } in
        record {
          walks = walks;
          exactly = ((λ h. fails), (λ h. refl));
          names = λ h.
              record {
                path = x.path;
                step = x.stop.step;
                quantity = x.stop.quantity;
                first = first;
                taken = refl;
                named = refl;
                doubles_none = refl;
                no_counts = refl;
              };
          otherwise = λ none. absurd (none fails);
          written = written b lent laid.some rows;
        }

    -- the last observation of each path, by its column and by its step
    abbrev seen : ℕ → Float
    seen p = observation b p b.simulation.grid.count

    abbrev walked : ℕ → Float
    walked p = b.observe (state_of b p b.simulation.grid.total)

    abbrev lowest : ℕ → Float
    lowest p = (state_of b p b.simulation.grid.total).lowest

    last_step_lem : (p : ℕ) → seen p ≡ walked p
    unfolding observation
    last_step_lem p = ap (λ (k : ℕ). b.observe (state_after (walk_of b p) k)) laid.ends

    abbrev refused : Refusal → Priced
    refused = refused_after (b.paths * b.simulation.grid.total)

    -- a batch that goes through
    done : run_stop b b.paths ≡ none → Claimed (priced_at b payoff none)
    unfolding report_of
    done e =
        let other : ((answer_of b (priced_at b payoff none)).number ≡ 22 → ⊥) =
        reported_other b.observed b.mirrored payoff seen lowest b.paths refused
        (λ x. Ok (report_with b x)) (λ r. (answer_of b r).number ≡ 22 → ⊥) (λ r other. other) (λ x h. omega (arith, h)) in
        record {
          walks = walks;
          exactly = (
            (λ h. absurd (other h)),
            (λ s.
                absurd
                (s.fails
                (run_finite b b.paths e s.path s.step s.is_path.from
                (omega (arith, s.is_path.upto)) s.is_step))),
          );
          names = λ h. absurd (other h);
          otherwise = λ none.
              reported_read b.observed b.mirrored payoff seen lowest b.paths refused
              (λ x. Ok (report_with b x)) (answer_of b)
              ∙ reported_same b.observed b.mirrored payoff seen walked lowest b.paths
              (λ p l h. last_step_lem p) _ (λ x. priced_answer b.observed (report_with b x));
          written = written b lent laid.some rows;
        }

    -- what a batch answers meets its claim
    pub batch_claim : Claimed (priced_run b payoff)
    unfolding priced_run
    batch_claim = go (run_stop b b.paths) refl
      where
        go : (o : Option RunStop) → run_stop b b.paths ≡ o → Claimed (priced_at b payoff o)
        go none e = done e
        go (some x) e = stopped x (run_first b b.paths x (omega arith) e)

    -- a batch that went through has written its last column
    last_observed :
        run_stop b b.paths ≡ none
        → SameUpTo (last_observation (table_after b lent) b.simulation.grid.count) seen
        b.paths
    unfolding observation
    last_observed e p from upto =
        let is_path : OneTo b.paths p = record { from = from; upto = upto } in
        let count = b.simulation.grid.count in
        let column : OneTo count count = record { from = laid.some; upto = omega arith } in
        let finite = run_finite b b.paths e in
        observed b lent laid.some rows p count is_path column
        (record {
          steps = λ k h l.
              finite p k from (omega arith) (record { from = h; upto = omega (arith, laid.ends) });
          paths = λ r k h l is_step. finite r k h (omega arith) is_step;
        })

-- ---- what is made of the run and of the last column is what is made of the plain walks
module _
    (handed : Handed) (draws : List Float) (payoff : Payoff) (laid : Laid handed.simulation.grid)
    (admitted : Admitted (simulation_in_use handed.simulation)) (lent : List Float)
    (rows : length lent ≡ handed.paths * handed.simulation.grid.count)
  where
    abbrev batch : Batch
    batch = batch_of handed draws

    abbrev table : List Float
    table = table_after batch lent

    -- a run that stops
    stops : (o : Option RunStop) (x : Refused) → Err x ≡ run_at batch payoff o
        → Err x ≡ priced_at batch payoff o
    stops none x e = let never : ◌≡◌ {A = ℕ} 0 1 = cc in absurd (omega arith)
    stops (some y) x e =
        let stop : Refused = record { refusal = refusal_at batch y; steps = steps_at batch y } in
        let same : x ≡ stop = cc in
        ap Err same

    -- one that goes through
    goes : (o : Option RunStop) → run_stop batch batch.paths ≡ o → (w : Walked)
        → Ok w ≡ run_at batch payoff o
        → priced_from w handed table ≡ priced_at batch payoff o
    unfolding priced_from reported_of reported report_with tally_of
    goes (some y) h w e = let never : ◌≡◌ {A = ℕ} 0 1 = cc in absurd (omega arith)
    goes none h w e =
        let is : w ≡ walked_of batch payoff = cc in
        rw is
        (ap
        (λ (q : List Question).
        once_asked (first_no q) (refused_after (batch.paths * batch.simulation.grid.total))
        (reported_of (walked_of batch payoff) batch.paths))
        (questions_same batch.observed _ _ batch.paths
        (last_observed batch payoff (laid_in_use _ laid) admitted lent rows h)))

    priced_so : {after : List Float} {r : Priced} → r ≡ priced_run batch payoff → after ≡ table
        → BatchPriced batch payoff lent after r
    priced_so is same =
        record {
          answer = is;
          table = same;
          claim =
              rw (is, same) (batch_claim batch payoff (laid_in_use _ laid) admitted lent rows);
        }

    pub run_refused :
        {after : List Float} (x : Refused) → BatchRun batch payoff lent after (Err x)
        → BatchPriced batch payoff lent after (Err x)
    unfolding run_answer priced_run
    run_refused x run = priced_so (stops (run_stop batch batch.paths) x run.answer) run.table

    pub run_priced :
        {after : List Float} (w : Walked) {r : Priced} → BatchRun batch payoff lent after (Ok w)
        → r ≡ priced_from w handed after → BatchPriced batch payoff lent after r
    unfolding run_answer priced_run
    run_priced w run made =
        priced_so
        (made ∙ ap (priced_from w handed) run.table
        ∙ goes (run_stop batch batch.paths) refl w run.answer)
        run.table
