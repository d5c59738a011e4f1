-- The schedule door's loop: what it has asked, converted and laid end to end after i segments.
-- Assumes nothing.
use mathlib.Core.Path.{◌≡◌, refl, sym, ap, subst, ◌∙◌}
use mathlib.Core.Bool.{and-eq-true_iff}
use mathlib.Core.List.{List}
use mathlib.Core.Logic.{⊎_elim}
use Prim.Native.Nat.{ℕ, zero, suc, ◌+◌, ◌≤◌, ◌<◌}
use native.Mathlib.Nat.{eq-or-lt_of_le, le_of_suc-le-suc}
use native.Mathlib.Numerals.{add-one}
use native.Mathlib.Omega.{arith}
use borrow.Author.Tests.{le-leb, ltb-true, leb-true}
use lib.Dec.{leb}
use lib.Ieee.{Float, nan, binary64}
use lib.ListN.{length, get_or, set, length-set}
use Rattle.numeric.specs.Root.{root}
use Rattle.numeric.proofs.Tables.{fill_next, take_is_tabulate}
use Rattle.decimal.specs.Decimal.{is_positive, value}
use Rattle.refusal.specs.declared.Refusal.{Refusal}
use Rattle.std.specs.Prelude.{Result, Ok, Err}
use Rattle.refusal.specs.declared.Refusal.TheVariants.{NoSegment, TooManySegments}
use Rattle.refusal.specs.Questions.{first_no, each, passed, unless, ask}
use Rattle.refusal.proofs.Laws.{each_none, each_more, each_stops, each_passed, passed_head, passed_tail, stopped, went_on}
use Rattle.model.specs.declared.TimeGrid.{TimeGrid}
use Rattle.model.specs.declared.Schedule.{Schedule}
use Rattle.model.specs.TimeGrid.{segment_at, steps_through, grid_of, last_step}
use Rattle.model.specs.Inner.InUse.{grid_in_use}
use Rattle.schedule.specs.Questions.{questions_of, segment_questions, schedule_questions}
use Rattle.model.specs.Inner.Laid.{Laid}
use Rattle.schedule.specs.Inner.Admission.{SchedulePrepared}

module _ (g : Schedule) where
  -- a refusal prepares nothing
  pub schedule_refused : (x : Refusal) → first_no (schedule_questions g) ≡ Err x → SchedulePrepared g (Err x)
  schedule_refused x f = record { outcome = sym f; ready = tt }

  -- 11 and 12, by their answers
  module _ (r : Refusal) where
    pub none_refused : Err r ≡ unless (leb 1 g.count) NoSegment passed → first_no (schedule_questions g) ≡ Err r
    unfolding schedule_questions
    none_refused e = stopped _ _ r e

    pub many_refused : Ok tt ≡ unless (leb 1 g.count) NoSegment passed → Err r ≡ unless (leb g.count 64) TooManySegments passed → first_no (schedule_questions g) ≡ Err r
    unfolding schedule_questions
    many_refused some e = went_on _ _ some ∙ stopped _ _ r e

  -- with 11 and 12 passed, the segments are left
  left : 1 ≤ g.count → g.count ≤ 64 → first_no (schedule_questions g) ≡ first_no (each (segment_questions g) g.count)
  unfolding schedule_questions first_no
  left some few = rw (le-leb 1 g.count some, le-leb g.count 64 few)

  pub record Laying (dt roots : List Float) (last : List ℕ) (total i : ℕ) : Type 0 where
    pub some : 1 ≤ g.count
    pub few : g.count ≤ 64
    pub long_dt : length dt ≡ 64
    pub long_roots : length roots ≡ 64
    pub long_last : length last ≡ 64
    pub dt_is : (j : ℕ) → j < i → get_or dt j nan ≡ value (segment_at g (suc j)).dt
    pub root_is : (j : ℕ) → j < i → get_or roots j nan ≡ root binary64 (value (segment_at g (suc j)).dt)
    pub last_is : (j : ℕ) → j < i → get_or last j 0 ≡ steps_through g (suc j)
    pub total_is : total ≡ steps_through g i
    pub short : total ≤ 4096
    pub passed : first_no (each (segment_questions g) i) ≡ passed

  pub laying_none : (dt roots : List Float) (last : List ℕ) → 1 ≤ g.count → g.count ≤ 64 → length dt ≡ 64 → length roots ≡ 64 → length last ≡ 64 → Laying dt roots last 0 0
  unfolding steps_through
  laying_none dt roots last some few long_dt long_roots long_last =
      record {
        some = some;
        few = few;
        long_dt = long_dt;
        long_roots = long_roots;
        long_last = long_last;
        dt_is = λ j h. absurd (omega arith);
        root_is = λ j h. absurd (omega arith);
        last_is = λ j h. absurd (omega arith);
        total_is = refl;
        short = omega arith;
        passed = each_none (segment_questions g);
      }

  module _ (dt roots : List Float) (last : List ℕ) (total i : ℕ) (before : Laying dt roots last total i) (more : i < g.count) where
    -- the running total with segment i + 1
    through : total + (segment_at g (suc i)).steps ≡ steps_through g (suc i)
    unfolding steps_through
    through = ap (λ (n : ℕ). n + (segment_at g (suc i)).steps) before.total_is

    -- its questions, as the code counts them
    here : first_no (questions_of (segment_at g (suc i)) (i + 1) (total + (segment_at g (suc i)).steps)) ≡ first_no (segment_questions g (suc i))
    here = rw (add-one i, through)

    pub segment_refused : (x : Refusal) → first_no (questions_of (segment_at g (suc i)) (i + 1) (total + (segment_at g (suc i)).steps)) ≡ Err x → first_no (schedule_questions g) ≡ Err x
    segment_refused x e =
        left before.some before.few
        ∙ each_stops (segment_questions g) i g.count x more before.passed (sym here ∙ e)

    pub laying_more : (v w : Float) → v ≡ value (segment_at g (suc i)).dt → w ≡ root binary64 v → first_no (questions_of (segment_at g (suc i)) (i + 1) (total + (segment_at g (suc i)).steps)) ≡ passed → Laying (set dt i v) (set roots i w) (set last i (total + (segment_at g (suc i)).steps)) (total + (segment_at g (suc i)).steps) (i + 1)
    laying_more v w v-is w-is e =
        record {
          some = before.some;
          few = before.few;
          long_dt = length-set dt i v ∙ before.long_dt;
          long_roots = length-set roots i w ∙ before.long_roots;
          long_last = length-set last i _ ∙ before.long_last;
          dt_is = fill_next nan (λ j. value (segment_at g (suc j)).dt) dt i v (omega arith) before.dt_is v-is;
          root_is = fill_next nan (λ j. root binary64 (value (segment_at g (suc j)).dt)) roots i w (omega arith) before.root_is (w-is ∙ ap (root binary64) v-is);
          last_is = fill_next 0 (λ j. steps_through g (suc j)) last i _ (omega arith) before.last_is through;
          total_is = rw (add-one i) through;
          short = leb-true _ _ (passed_head _ _ (passed_tail _ _ e));
          passed = each_more (segment_questions g) i before.passed (sym here ∙ e);
        }

  -- each segment has a step or more, so the totals rise
  module _ (all : first_no (each (segment_questions g) g.count) ≡ passed) where
    steps_rise : (j : ℕ) → j < g.count → steps_through g j < steps_through g (suc j)
    unfolding steps_through
    steps_rise j h =
        let runs = passed_head _ _ (each_passed (segment_questions g) j g.count h all) in
        omega (arith, ltb-true 0 (segment_at g (suc j)).steps ((and-eq-true_iff (is_positive (segment_at g (suc j)).dt) _).0 runs).1)

    total_rises : (i j : ℕ) → i < j → j ≤ g.count → steps_through g i < steps_through g j
    total_rises i zero h b = absurd (omega arith)
    total_rises i (suc j) h b =
        ⊎_elim (λ (e : i ≡ j). subst (λ (k : ℕ). steps_through g k < steps_through g (suc j)) (sym e) (steps_rise j b))
        (λ (l : i < j). omega (arith, total_rises i j l (omega arith), steps_rise j b)) (eq-or-lt_of_le (le_of_suc-le-suc h))

  -- all segments asked and laid
  module _ (dt roots : List Float) (last : List ℕ) (total i : ℕ) (before : Laying dt roots last total i) (end : i ≡ g.count) where
    abbrev grid : TimeGrid
    grid = record { count = g.count; total = total; dt = dt; sqrt_dt = roots; last = last }

    all_passed : first_no (each (segment_questions g) g.count) ≡ passed
    all_passed = ap (λ (n : ℕ). first_no (each (segment_questions g) n)) (sym end) ∙ before.passed

    total_whole : total ≡ steps_through g g.count
    total_whole = before.total_is ∙ ap (steps_through g) end

    ends_at : (j : ℕ) → j ≤ g.count → last_step grid j ≡ steps_through g j
    unfolding steps_through
    ends_at zero h = refl
    ends_at (suc j) h = before.last_is j (omega arith)

    laid : Laid grid
    laid =
        record {
          some = before.some;
          few = before.few;
          short = before.short;
          rises = λ j k h b. omega (arith, ends_at j (omega arith), ends_at k b, total_rises all_passed j k h b);
          ends = ends_at g.count (omega arith) ∙ sym total_whole;
        }

    in_use : grid_in_use grid ≡ grid_of g
    unfolding grid_of
    in_use =
        rw (
          total_whole,
          take_is_tabulate nan g.count _ dt (omega arith) (λ j h. before.dt_is j (omega arith)),
          take_is_tabulate nan g.count _ roots (omega arith) (λ j h. before.root_is j (omega arith)),
          take_is_tabulate 0 g.count _ last (omega arith) (λ j h. before.last_is j (omega arith)),
        )

    pub schedule_prepared : SchedulePrepared g (Ok grid)
    schedule_prepared =
        record {
          outcome = sym (left before.some before.few ∙ all_passed);
          ready = record { in_use = in_use; laid = laid };
        }
