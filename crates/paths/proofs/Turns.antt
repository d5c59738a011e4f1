-- The two loops' invariants, over any batch, and what each turn does to them. Assumes nothing.
use mathlib.Core.Path.{◌≡◌, refl, sym, ◌∙◌, ap, subst}
use mathlib.Core.Option.{none, some}
use mathlib.Core.List.{List, [], ◌∷◌}
use mathlib.Core.Logic.{⊎_elim}
use Prim.Native.Nat.{ℕ, suc, pred, ◌+◌, ◌*◌, ◌-◌, ◌<◌, ◌≤◌}
use native.Mathlib.Nat.{suc-mul, zero-mul, add-zero, mul-le-mul}
use native.Mathlib.Numerals.{add-one}
use native.Mathlib.Omega.{arith}
use lib.Ieee.{Float, nan}
use lib.ListN.{get_or, set, take, drop, length, length-set, length-drop}
use lib.Seq.{get_or-take, get_or-drop, length-take-le}
use Rattle.refusal.specs.declared.Quantity.{Quantity}
use Rattle.model.specs.declared.State.{State}
use Rattle.std.specs.Prelude.{Ok, Err}
use Rattle.model.specs.Step.{step, finite_state, finiteness}
use Rattle.model.specs.TimeGrid.{last_step, dt_at, sqrt_dt_at}
use Rattle.model.specs.Inner.Laid.{Laid}
use Rattle.model.specs.Inner.Admitted.{Admitted}
use Rattle.model.specs.First.{first_some}
use Rattle.model.specs.Walk.{state_after, stop_within}
use Rattle.model.proofs.First.{split}
use Rattle.model.proofs.Stops.{stop_at, stop_goes, stop_ends, stop_none}
use Rattle.model.proofs.Containment.{Reached, reached_none, reached_open, reached_shut}
use Rattle.model.proofs.Containment.{reached_next, reached_on, reached_behind, reached_ahead}
use Rattle.model.proofs.Containment.{last_most}
use Rattle.refusal.specs.declared.Refusal.TheVariants as refusal
use Rattle.estimates.specs.declared.Payoff.{Payoff}
use Rattle.estimates.proofs.Tallying.{tally_none}
use Rattle.paths.specs.declared.Walked.{Walked}
use Rattle.walks.specs.declared.Observed.{Observed}
use Rattle.walks.specs.Batch.{Batch, walk_of, non_positive_paths, observation}
use Rattle.paths.specs.Run.{run_stop, entry_after}
use Rattle.tally.specs.Inner.Rows.{last_observation, with_rows, fallen_among, lowest_in, tally_in}
use Rattle.paths.specs.Inner.Handed.{nothing_walked, with_ended, Ended, run_answer}
use Rattle.walks.proofs.Cells.{row_below, row_last, Filled, filled_none, filled_more}
use Rattle.tally.proofs.Tallying.{rows_tallied, fallen_few, fallen_more}
use Rattle.paths.proofs.Stops.{run_stop_at, run_goes, run_stops, run_none, run_path, entry_new}
use Rattle.paths.proofs.Stops.{entry_run, entry_path}

-- what the paths before come to, with so many steps taken
abbrev pub with_steps : Walked → ℕ → Walked
with_steps w steps =
    record { non_positive = w.non_positive; steps = steps; tally = w.tally }

-- at the head of the inner loop: `at` steps of path `path` + 1 are walked, and its row is filled up
-- to `segment`
pub record Inner (b : Batch) (path : ℕ) (seen₀ seen : List Float) (w₀ w : Walked)
    (segment at : ℕ) (s : State) : Type 0 where
  pub most : at ≤ b.simulation.grid.total
  pub reached : Reached b.simulation.grid segment at
  pub state : s ≡ state_after (walk_of b (suc path)) at
  pub going : stop_within (walk_of b (suc path)) at ≡ none
  pub counted : w ≡ with_steps w₀ (path * b.simulation.grid.total + at)
  pub long : length seen ≡ b.paths * b.simulation.grid.count
  pub filled : Filled seen₀ seen (path * b.simulation.grid.count) segment
      (λ j. observation b (suc path) (suc j))

-- at the head of the outer loop: `path` paths are walked to the end, their rows are filled, and
-- `w` is what they come to
pub record Outer (b : Batch) (payoff : Payoff) (lent seen : List Float) (path : ℕ) (w : Walked)
    : Type 0 where
  pub most : path ≤ b.paths
  pub going : run_stop b path ≡ none
  pub ended : Ended b payoff path w
  pub long : length seen ≡ b.paths * b.simulation.grid.count
  pub done : (q j : ℕ) → q < path → j < b.simulation.grid.count
      → get_or seen (q * b.simulation.grid.count + j) nan ≡ observation b (suc q) (suc j)
  pub rest : (x : ℕ) → path * b.simulation.grid.count ≤ x → get_or seen x nan ≡ get_or lent x nan

-- the numbers of a turn are small
pub record Small (paths path total count segment at : ℕ) : Type 0 where
  pub step : path * total + at < paths * total
  pub steps : paths * total ≤ 268435456
  pub entry : path * count + segment < paths * count
  pub entries : paths * count ≤ 4194304
  pub path_small : path < 65536
  pub at_small : at < 4096
  pub segment_small : segment < 64

module _ {b : Batch} (ok : Laid b.simulation.grid) {path : ℕ} {seen₀ seen : List Float}
    {w₀ w : Walked} {segment at : ℕ} {s : State} (h : Inner b path seen₀ seen w₀ w segment at s)
  where
    pub small : b.paths ≤ 65536 → path < b.paths → at < b.simulation.grid.total
        → Small b.paths path b.simulation.grid.total b.simulation.grid.count segment at
    small f p k =
        let g : segment < b.simulation.grid.count = reached_open b.simulation.grid ok segment at
        h.reached k in
        record {
          step = row_below path b.paths b.simulation.grid.total at p k;
          steps = mul-le-mul f ok.short;
          entry = row_below path b.paths b.simulation.grid.count segment p g;
          entries = mul-le-mul f ok.few;
          path_small = omega arith;
          at_small = omega (arith, ok.short);
          segment_small = omega (arith, ok.few);
        }

    module _ (k : at < b.simulation.grid.total) {s' : State}
        (e : s' ≡ step b.simulation.kernel b.simulation.params s (b.draw (suc path) (suc at))
        (dt_at b.simulation.grid (suc at)) (sqrt_dt_at b.simulation.grid (suc at))) where
      pub next_state : s' ≡ state_after (walk_of b (suc path)) (suc at)
      unfolding state_after
      next_state = e ∙ rw h.state

      module _ (f : finiteness s' ≡ finite_state) where
        next_going : stop_within (walk_of b (suc path)) (at + 1) ≡ none
        next_going =
            rw add-one
            (stop_goes (walk_of b (suc path)) at h.going (ap finiteness (sym next_state) ∙ f))

        next_counted :
            with_steps w (w.steps + 1)
            ≡ with_steps w₀ (path * b.simulation.grid.total + (at + 1))
        next_counted =
            ap (λ (x : Walked). with_steps x (x.steps + 1)) h.counted
            ∙ ap (with_steps w₀) (omega arith)

        -- a step that ends no segment
        pub turn_on : (at + 1 ≡ last_step b.simulation.grid (suc segment) → ⊥)
            → Inner b path seen₀ seen w₀ (with_steps w (w.steps + 1)) segment (at + 1) s'
        turn_on ne =
            let here : segment < b.simulation.grid.count = reached_open b.simulation.grid ok segment
            at h.reached k in
            record {
              most = omega arith;
              reached = reached_on b.simulation.grid ok segment at h.reached here ne;
              state = rw add-one next_state;
              going = next_going;
              counted = next_counted;
              long = h.long;
              filled = h.filled;
            }

        -- a step that ends a segment, whose entry is written
        pub turn_write : path < b.paths → at + 1 ≡ last_step b.simulation.grid (suc segment)
            → {v : Float} → v ≡ b.observe s'
            → Inner b path seen₀ (set seen (path * b.simulation.grid.count + segment) v) w₀
            (with_steps w (w.steps + 1)) (segment + 1) (at + 1) s'
        unfolding observation
        turn_write p q {v} w =
            let here : segment < b.simulation.grid.count = reached_open b.simulation.grid ok segment
            at h.reached k in
            let q' : suc at ≡ last_step b.simulation.grid (suc segment) = rw add-one at q in
            record {
              most = omega arith;
              reached = reached_next b.simulation.grid ok segment at h.reached here q;
              state = rw add-one next_state;
              going = next_going;
              counted = next_counted;
              long = rw length-set h.long;
              filled =
                  filled_more seen₀ (path * b.simulation.grid.count) _ seen segment v h.filled
                  (rw h.long (row_below path b.paths b.simulation.grid.count segment p here))
                  (w ∙ ap b.observe (next_state ∙ ap (state_after (walk_of b (suc path))) q'));
            }

-- the inner loop begins
pub turn_first :
    {b : Batch} → Laid b.simulation.grid → {path : ℕ} {seen : List Float} {w : Walked}
    → w.steps ≡ path * b.simulation.grid.total
    → length seen ≡ b.paths * b.simulation.grid.count
    → Inner b path seen seen w w 0 0 b.simulation.start
unfolding state_after stop_within first_some
turn_first {b} ok {path} {seen} {w} e g =
    record {
      most = omega arith;
      reached = reached_none b.simulation.grid ok;
      state = refl;
      going = refl;
      counted = ap (with_steps w) (omega (arith, e));
      long = g;
      filled = filled_none seen (path * b.simulation.grid.count) _;
    }

-- a path that is walked to its end leaves each of its entries written
entry_done : (b : Batch) → Laid b.simulation.grid → (q n j : ℕ) → q < n → run_stop b n ≡ none
    → j < b.simulation.grid.count → (x : Float) → entry_after b (suc q) (suc j) x
    ≡ observation b (suc q) (suc j)
entry_done b ok q n j k e l x =
    entry_new b q (suc j) x (run_none b q n (omega arith) e)
    (stop_none (walk_of b (suc q)) _ b.simulation.grid.total
    (last_most b.simulation.grid ok (suc j) l) (run_path b q n k e))

module _ {b : Batch} {payoff : Payoff} (ok : Laid b.simulation.grid) {lent : List Float} where
  -- the outer loop begins
  pub path_first :
      length lent ≡ b.paths * b.simulation.grid.count → {w : Walked}
      → w ≡ nothing_walked b.mirrored → Outer b payoff lent lent 0 w
  unfolding run_stop non_positive_paths first_some
  path_first g {w} e =
      record {
        most = omega arith;
        going = refl;
        ended =
            rw e
            (record {
              counted = sym (zero-mul b.simulation.grid.total);
              fallen = refl;
              few = omega arith;
              tallied = sym (tally_none _ _ b.mirrored);
            });
        long = g;
        done = λ q j k l. absurd (omega arith);
        rest = λ x k. refl;
      }

  module _
      {seen₀ : List Float} {path : ℕ} {w₀ : Walked} (o : Outer b payoff lent seen₀ path w₀)
      (p : path < b.paths) {seen : List Float} {w : Walked} {segment at : ℕ} {s : State}
      (h : Inner b path seen₀ seen w₀ w segment at s)
    where
      -- what the paths before come to
      steps_now : w.steps ≡ path * b.simulation.grid.total + at
      steps_now = ap (λ (x : Walked). x.steps) h.counted

      low_now : w.non_positive ≡ non_positive_paths b path
      low_now = ap (λ (x : Walked). x.non_positive) h.counted ∙ o.ended.fallen

      pub low_few : w.non_positive ≤ path
      low_few = omega (arith, ap (λ (x : Walked). x.non_positive) h.counted, o.ended.few)

      tally_now : w.tally ≡ tally_in b payoff path
      tally_now = ap (λ (x : Walked). x.tally) h.counted ∙ o.ended.tallied

      -- the rows of the paths before are kept
      kept : (q j : ℕ) → q < path → j < b.simulation.grid.count
          → get_or seen (q * b.simulation.grid.count + j) nan ≡ observation b (suc q) (suc j)
      kept q j k l = h.filled.before _ (row_below q path b.simulation.grid.count j k l)
          ∙ o.done q j k l

      -- a path walked to its end
      -- its row
      row_done : b.simulation.grid.total ≤ at → (j : ℕ) → j < b.simulation.grid.count
          → get_or seen (path * b.simulation.grid.count + j) nan ≡ observation b (suc path) (suc j)
      row_done k j l =
          h.filled.new j (omega (arith, reached_shut b.simulation.grid ok segment at h.reached k))

      abbrev row : List Float
      row = take (length seen - path * b.simulation.grid.count)
          (drop (path * b.simulation.grid.count) seen)

      row_fits : path * b.simulation.grid.count + b.simulation.grid.count ≤ length seen
      row_fits =
          rw h.long
          (row_last path b.paths b.simulation.grid.count b.simulation.grid.count p (omega arith))

      pub row_long : 1 * b.simulation.grid.count ≤ length row
      row_long =
          let base = path * b.simulation.grid.count in
          omega (
            arith,
            length-take-le (length seen - base) (drop base seen)
                (omega (arith, length-drop base seen)),
            row_fits,
          )

      -- its lowest spot
      module _ (k : b.simulation.grid.total ≤ at) where
        at_end : at ≡ b.simulation.grid.total
        at_end = omega (arith, h.most)

        stays : stop_within (walk_of b (suc path)) b.simulation.grid.total ≡ none
        stays = subst (λ (n : ℕ). stop_within (walk_of b (suc path)) n ≡ none) at_end h.going

        own_lowest : (l : ℕ) → l < 1 → get_or (s.lowest ∷ []) l nan ≡ lowest_in b (suc (path + l))
        own_lowest l m =
            let z : l ≡ 0 = omega arith in
            rw (z, add-zero path)
            (ap (λ (x : State). x.lowest)
            (h.state ∙ ap (state_after (walk_of b (suc path))) at_end))

        -- what it shows the payoff
        shown : last_observation row b.simulation.grid.count 1
            ≡ observation b (suc path) b.simulation.grid.count
        shown =
            let count = b.simulation.grid.count in
            let last : suc (pred count) ≡ count = omega (arith, ok.some) in
            ap (λ (x : ℕ). get_or row x nan) (omega (arith, zero-mul count))
            ∙ get_or-take (length seen - path * count) (drop (path * count) seen) (pred count) nan
            (omega (arith, ok.some, row_fits))
            ∙ get_or-drop (path * count) seen (pred count) nan
            ∙ row_done k (pred count) (omega (arith, ok.some))
            ∙ ap (observation b (suc path)) last

        -- it is added
        path_tallied : with_rows w.tally payoff b.observed row b.simulation.grid.count
            (s.lowest ∷ []) 1 ≡ tally_in b payoff (path + 1)
        path_tallied =
            rows_tallied b payoff path row (s.lowest ∷ []) 1 tally_now
            (λ l m. let z : l ≡ 0 = omega arith in rw (z, add-zero path) shown) own_lowest

        -- and it is counted where it is non-positive
        path_fallen : Admitted b.simulation → non_positive_paths b (path + 1)
            ≡ non_positive_paths b path + fallen_among (s.lowest ∷ []) 1
        path_fallen admitted =
            fallen_more b admitted path (s.lowest ∷ []) 1 (λ l m. let z : l
            ≡ 0 = omega arith in rw (z, add-zero path) stays) own_lowest

        path_ended : Admitted b.simulation
            → Ended b payoff (path + 1)
            (with_ended w payoff b.observed row b.simulation.grid.count (s.lowest ∷ []))
        path_ended admitted =
            record {
              counted =
                  rw add-one
                  (omega (arith, suc-mul path b.simulation.grid.total, at_end, steps_now));
              fallen = ap (◌+ fallen_among (s.lowest ∷ []) 1) low_now ∙ sym (path_fallen admitted);
              few = omega (arith, fallen_few (s.lowest ∷ []) 1, low_few);
              tallied = path_tallied;
            }

        pub path_next :
            Admitted b.simulation → {o : Observed} → o ≡ b.observed → {w' : Walked}
            → w' ≡ with_ended w payoff o row b.simulation.grid.count (s.lowest ∷ [])
            → Outer b payoff lent seen (path + 1) w'
        path_next admitted observed e =
            let g : segment ≡ b.simulation.grid.count = reached_shut b.simulation.grid ok segment at
            h.reached k in
            let whole : (path + 1) * b.simulation.grid.count
            ≡ path * b.simulation.grid.count + b.simulation.grid.count =
            rw add-one (suc-mul path b.simulation.grid.count) in
            record {
              most = omega arith;
              going = rw add-one (run_goes b path o.going stays);
              ended = rw (e, observed) (path_ended admitted);
              long = h.long;
              done = λ q j l m.
                  ⊎_elim (λ (z : q < path). kept q j z m)
                  (λ (z : path ≤ q). let e' : q
                  ≡ path = omega arith in rw e' (h.filled.new j (omega arith)))
                  (split q path);
              rest = λ x l. h.filled.after x (omega arith) ∙ o.rest x (omega arith);
            }

      -- a path that stops
      module _ (k : at < b.simulation.grid.total) {s' : State}
          (e : s' ≡ state_after (walk_of b (suc path)) (suc at)) {x : Quantity} (f : finiteness s'
          ≡ Err x) where
        stops : (n : ℕ) → at < n → stop_within (walk_of b (suc path)) n ≡ some (stop_at (suc at) x)
        stops = stop_ends (walk_of b (suc path)) at x h.going (ap finiteness (sym e) ∙ f)

        run_stop_lem : (n : ℕ) → path < n → run_stop b n
            ≡ some (run_stop_at (suc path) (stop_at (suc at) x))
        run_stop_lem = run_stops b path (stop_at (suc at) x) o.going
            (stops b.simulation.grid.total k)

        pub run_ends :
            run_answer b payoff
            ≡ Err (record {
              refusal = refusal.NonFinite (path + 1) (at + 1) x (w.steps + 1);
              steps = w.steps + 1;
            })
        unfolding run_answer
        run_ends =
            rw (run_stop_lem b.paths p)
            (cc (add-one path, add-one at, the_steps))
          where
            the_steps : path * b.simulation.grid.total + suc at ≡ w.steps + 1
            the_steps = omega (arith, steps_now)

        -- the row of the path that stops
        here : (j : ℕ) → j < b.simulation.grid.count
            → get_or seen (path * b.simulation.grid.count + j) nan
            ≡ entry_after b (suc path) (suc j)
            (get_or lent (path * b.simulation.grid.count + j) nan)
        here j l =
            ⊎_elim
            (λ (y : j < segment).
            h.filled.new j y
            ∙ sym (entry_new b path (suc j) _ o.going
            (stop_none (walk_of b (suc path)) _ at
            (reached_behind b.simulation.grid ok segment at h.reached j y) h.going)))
            (λ (y : segment ≤ j).
            h.filled.after _ (omega arith) ∙ o.rest _ (omega arith)
            ∙ sym (entry_path b path (suc j) _ (stop_at (suc at) x) o.going
            (stops _ (reached_ahead b.simulation.grid ok segment at h.reached j y l))))
            (split j segment)

        pub entries_end : (q j : ℕ) → q < b.paths → j < b.simulation.grid.count
            → get_or seen (q * b.simulation.grid.count + j) nan
            ≡ entry_after b (suc q) (suc j) (get_or lent (q * b.simulation.grid.count + j) nan)
        entries_end q j l m =
            ⊎_elim
            (λ (z : q < path). kept q j z m ∙ sym (entry_done b ok q path j z o.going m _))
            (λ (z : path ≤ q).
            ⊎_elim
            (λ (y : path < q).
            h.filled.after _
            (omega (arith, row_last path q b.simulation.grid.count segment y h.reached.most))
            ∙ o.rest _
            (omega (arith, row_last path q b.simulation.grid.count segment y h.reached.most))
            ∙ sym (entry_run b q (suc j) _ _ (run_stop_lem q y)))
            (λ (y : q ≤ path). let e' : q ≡ path = omega arith in rw e' (here j m)) (split path q))
            (split q path)

  -- all paths walked
  module _
      {seen : List Float} {path : ℕ} {w : Walked} (o : Outer b payoff lent seen path w)
      (k : b.paths ≤ path)
    where
      pub run_done : run_answer b payoff ≡ Ok w
      unfolding run_answer
      run_done =
          let t : path ≡ b.paths = omega (arith, o.most) in
          let goes : run_stop b b.paths ≡ none = subst (λ (n : ℕ). run_stop b n ≡ none) t o.going in
          let all : b.paths * b.simulation.grid.total
          ≡ w.steps = ap (◌* b.simulation.grid.total) (sym t) ∙ sym o.ended.counted in
          let falls : non_positive_paths b b.paths
          ≡ w.non_positive = ap (non_positive_paths b) (sym t) ∙ sym o.ended.fallen in
          let sum : tally_in b payoff b.paths ≡ w.tally = ap (tally_in b payoff) (sym t)
          ∙ sym o.ended.tallied in
          rw (goes, all, falls, sum)

      pub entries_done : (q j : ℕ) → q < b.paths → j < b.simulation.grid.count
          → get_or seen (q * b.simulation.grid.count + j) nan
          ≡ entry_after b (suc q) (suc j) (get_or lent (q * b.simulation.grid.count + j) nan)
      entries_done q j l m =
          o.done q j (omega arith) m ∙ sym (entry_done b ok q path j (omega arith) o.going m _)
