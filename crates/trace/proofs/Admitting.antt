-- The questions of a trace before its walk, and what the call comes to. Assumes nothing.
use mathlib.Core.Path.{◌≡◌, refl, sym, ap, ◌∙◌}
use mathlib.Core.Bool.{and-eq-true_iff}
use mathlib.Core.List.{◌++◌}
use Prim.Native.Nat.{ℕ, ◌+◌}
use borrow.Author.Tests.{eqb-true}
use lib.Dec.{eqb}
use lib.ListN.{length}
use Rattle.std.specs.Prelude.{Result, Ok, Err}
use Rattle.refusal.specs.declared.Refusal.{Refusal}
use Rattle.refusal.specs.Questions.{first_no, passed}
use Rattle.refusal.proofs.Laws.{then, stops, passed_head, passed_tail}
use Rattle.model.specs.declared.Simulation.{Simulation}
use Rattle.model.specs.Simulation.{Given, simulation_of}
use Rattle.model.specs.Walk.{Walk}
use Rattle.admission.specs.Questions.{model_questions}
use Rattle.admission.specs.Inner.Admission.{ModelPrepared}
use Rattle.trace.specs.declared.Stopped.{Stopped}
use Rattle.trace.specs.declared.Tracing.{Tracing}
use Rattle.trace.specs.declared.Lengths.{Lengths}
use Rattle.trace.specs.Trace.{Tables, trace_walk, trace_answer, tables_after}
use Rattle.trace.specs.Call.{TraceInputs, TraceAnswered, walk_of, lengths}
use Rattle.trace.specs.Call.{trace_questions, trace_call, trace_tables, table_questions}
use Rattle.trace.specs.Call.{answered, refused_after}
use Rattle.trace.specs.Inner.Admission.{TraceAdmitted, lengths_needed}
use Rattle.trace.proofs.Turns.{walk_in}

-- ---- 20 and 21
all_of : {a b c d : ℕ} (e : Lengths) → a ≡ e.spots → b ≡ e.variances → c ≡ e.z → d ≡ e.factors
    → ◌≡◌ {A = Lengths} (record { spots = a; variances = b; z = c; factors = d }) e
all_of e f g h i = rw (f, g, h, i)

lengths_are : (steps n drawn : ℕ) (lent : Lengths)
    → first_no (table_questions steps n drawn lent) ≡ passed → lent ≡ lengths_needed (steps + 1) n
lengths_are steps n drawn lent e =
    let right = passed_head _ _ (passed_tail _ _ e) in
    let one = (and-eq-true_iff (eqb lent.spots (steps + 1)) _).0 right in
    let two = (and-eq-true_iff (eqb lent.variances (steps + 1)) _).0 one.1 in
    let three = (and-eq-true_iff (eqb lent.z (steps + 1)) _).0 two.1 in
    all_of (lengths_needed (steps + 1) n) (eqb-true _ _ one.0) (eqb-true _ _ two.0)
    (eqb-true _ _ three.0) (eqb-true _ _ three.1)

-- ---- the questions in turn
module _ (g : Given) (drawn : ℕ) (lent : Lengths) where
  pub model_refused : (r : Refusal) → ModelPrepared g (Err r) → TraceAdmitted g drawn lent (Err r)
  model_refused r e = record { outcome = sym (stops (model_questions g) _ r (sym e.outcome)); ready = tt }

  module _ (s : Simulation) (made : ModelPrepared g (Ok s)) where
    left :
        first_no
        (model_questions g
        ++ table_questions (simulation_of g).grid.total (simulation_of g).kernel.n drawn lent)
        ≡ first_no (table_questions s.grid.total s.kernel.n drawn lent)
    left =
        then (model_questions g) _ (sym made.outcome)
        ∙ ap (λ (m : Simulation). first_no (table_questions m.grid.total m.kernel.n drawn lent))
        (sym made.ready.in_use)

    pub tables_refused : (r : Refusal)
        → first_no (table_questions s.grid.total s.kernel.n drawn lent) ≡ Err r
        → TraceAdmitted g drawn lent (Err r)
    tables_refused r e = record { outcome = sym (left ∙ e); ready = tt }

    pub trace_admitted :
        first_no (table_questions s.grid.total s.kernel.n drawn lent) ≡ passed
        → TraceAdmitted g drawn lent (Ok s)
    trace_admitted e =
        record {
          outcome = sym (left ∙ e);
          ready =
              record {
                simulation = made.ready;
                draws = eqb-true _ _ (passed_head _ _ e);
                tables = lengths_are s.grid.total s.kernel.n drawn lent e;
              };
        }

-- ---- the call
module _ (i : TraceInputs) (lent : Tables) where
  pub refused_first : (r : Refusal) → TraceAdmitted i.given (length i.draws) (lengths lent) (Err r)
      → (a : Tracing) → a ≡ refused_after 0 r → TraceAnswered i lent lent a
  unfolding trace_call trace_tables trace_questions
  refused_first r e a f = record { answer = rw (sym e.outcome) f; tables = rw (sym e.outcome) refl }

  pub walked : (s : Simulation) → TraceAdmitted i.given (length i.draws) (lengths lent) (Ok s)
      → (t : Result ℕ Stopped) → t ≡ trace_answer (walk_in s i.draws)
      → (after : Tables) → after ≡ tables_after (walk_in s i.draws) lent
      → (a : Tracing) → a ≡ answered t → TraceAnswered i lent after a
  unfolding trace_call trace_tables trace_questions
  walked s made t e after f a h =
      let walk_is : walk_in s i.draws ≡ walk_of i =
      ap (λ (m : Simulation). trace_walk m i.draws) made.ready.simulation.in_use in
      record {
        answer = rw (sym made.outcome) (h ∙ ap answered (e ∙ ap trace_answer walk_is));
        tables = rw (sym made.outcome) (f ∙ ap (λ (w : Walk). tables_after w lent) walk_is);
      }
