-- The kernel tables' questions, one after another, and the kernel that is kept of them. Assumes
-- nothing.
use mathlib.Core.Path.{◌≡◌, sym, ap, ◌∙◌}
use mathlib.Core.Bool.{true, and-eq-true_iff}
use mathlib.Core.List.{List}
use Prim.Native.Nat.{ℕ, ◌+◌, ◌≤◌, ◌<◌}
use native.Mathlib.Numerals.{add-one}
use borrow.Author.Tests.{leb-true, eqb-true}
use lib.Dec.{leb}
use lib.Ieee.{Float, nan}
use lib.ListN.{length, get_or, take}
use lib.Seq.{get_or-take}
use Rattle.std.specs.Prelude.{Ok, Err}
use Rattle.refusal.specs.declared.Refusal.{Refusal}
use Rattle.refusal.specs.Questions.{first_no, each, passed}
use Rattle.refusal.proofs.Laws.{each_more, each_stops, each_passed, passed_head, passed_tail, stops, then}
use Rattle.model.specs.Kernel.{in_range}
use Rattle.admission.specs.Questions.{count_questions, questions_of, entry_questions, kernel_questions}
use Rattle.admission.specs.Inner.Admission.{KernelPrepared}

module _ (weights discounts : List Float) where
  abbrev counts : Type 0
  counts = first_no (count_questions (length weights) (length discounts)) ≡ passed

  -- a refusal prepares nothing
  pub kernel_refused : (x : Refusal) → first_no (kernel_questions weights discounts) ≡ Err x → KernelPrepared weights discounts (Err x)
  kernel_refused x e = record { outcome = sym e; ready = tt }

  pub count_refused : (x : Refusal) → first_no (count_questions (length weights) (length discounts)) ≡ Err x → first_no (kernel_questions weights discounts) ≡ Err x
  unfolding kernel_questions
  count_refused x e = stops _ _ x e

  pub few : counts → length weights ≤ 10
  few e = leb-true _ _ ((and-eq-true_iff (leb 1 (length weights)) _).0 (passed_head _ _ e)).1

  pub some : counts → 1 ≤ length weights
  some e = leb-true _ _ ((and-eq-true_iff (leb 1 (length weights)) _).0 (passed_head _ _ e)).0

  pub same : counts → length discounts ≡ length weights
  same e = eqb-true _ _ (passed_head _ _ (passed_tail _ _ e))

  -- after i entries
  module _ (i : ℕ) (counted : counts) (before : first_no (each (entry_questions weights discounts) i) ≡ passed) where
    pub entry_refused : (x : Refusal) → i < length weights → first_no (questions_of (get_or weights i nan) (get_or discounts i nan) (i + 1)) ≡ Err x → first_no (kernel_questions weights discounts) ≡ Err x
    unfolding kernel_questions
    entry_refused x more e =
        then _ _ counted ∙ each_stops (entry_questions weights discounts) i (length weights) x more before (rw add-one at e)

    pub entry_passed : first_no (questions_of (get_or weights i nan) (get_or discounts i nan) (i + 1)) ≡ passed → first_no (each (entry_questions weights discounts) (i + 1)) ≡ passed
    entry_passed e = each_more (entry_questions weights discounts) i before (rw add-one at e)

    -- all entries asked, and both tables copied
    module _ (end : length weights ≡ i) (kept_weights kept_discounts : List Float) (w : take (length weights) kept_weights ≡ weights) (d : take (length discounts) kept_discounts ≡ discounts) where
      all : first_no (each (entry_questions weights discounts) (length weights)) ≡ passed
      all = ap (λ (n : ℕ). first_no (each (entry_questions weights discounts) n)) end ∙ before

      weight_fits : (j : ℕ) → j < length weights → in_range (get_or kept_weights j nan) ≡ true
      weight_fits j h =
          let asked = passed_head _ _ (each_passed (entry_questions weights discounts) j (length weights) h all) in
          rw (sym (get_or-take (length weights) kept_weights j nan h) ∙ ap (λ (xs : List Float). get_or xs j nan) w) asked

      pub kernel_prepared : KernelPrepared weights discounts (Ok (record { n = length weights; weights = kept_weights; discounts = kept_discounts }))
      unfolding kernel_questions
      kernel_prepared =
          record {
            outcome = sym (then _ _ counted ∙ all);
            ready =
                record {
                  in_use = let n = same counted in rw (← n, d, n, w);
                  some = some counted;
                  few = few counted;
                  weight = weight_fits;
                };
          }
