-- How many paths, draws and observations a batch may have: what questions 19, 28, 20 and 21 leave.
-- Assumes nothing.
use mathlib.Core.Path.{◌≡◌}
use mathlib.Core.Bool.{Bool, true, false, not, ◌&&◌, ◌||◌, and-eq-true_iff}
use mathlib.Core.List.{List, [], ◌∷◌}
use Prim.Native.Nat.{ℕ, ◌*◌, ◌%◌, ◌≤◌}
use native.Mathlib.Nat.{mul-le-mul}
use native.Mathlib.Omega.{arith}
use lib.Dec.{eqb, leb}
use lib.ListN.{length}
use lib.Ieee.{Float}
use borrow.Author.Tests.{leb-true, eqb-true}
use Rattle.refusal.specs.declared.Refusal.TheVariants.{Paths, Draws, Lengths}
use Rattle.refusal.specs.Questions.{ask, first_no, passed}
use Rattle.refusal.proofs.Laws.{passed_head, passed_tail, passed_first, passed_then}
use Rattle.walks.specs.declared.Batch.{Batch as Handed}
use Rattle.walks.specs.Batch.{draws_needed}
use Rattle.paths.specs.Inner.Handed.{Prepared}
use Rattle.batch.specs.Questions.{paths_pass, path_questions, batch_questions}
use Rattle.batch.specs.Inner.Handed.{Ready}

-- paths × steps, or paths × segments
pub product_small : (a b : ℕ) → a ≤ 65536 → b ≤ 4096 → a * b ≤ 268435456
product_small a b h k = mul-le-mul h k

-- ---- 19
even :
    (mirrored : Bool) (paths : ℕ) → (not mirrored || eqb (paths % 2) 0) ≡ true → mirrored ≡ true
    → paths % 2 ≡ 0
even true paths h e = eqb-true (paths % 2) 0 h
even false paths h e = let z : ◌≡◌ {A = ℕ} 0 1 = cc in absurd (omega arith)

module _ (mirrored : Bool) (paths : ℕ) (pass : paths_pass mirrored paths ≡ true) where
  both :
      ((leb 2 paths && leb paths 65536) ≡ true) × ((not mirrored || eqb (paths % 2) 0) ≡ true)
  unfolding paths_pass
  both =
      (and-eq-true_iff (leb 2 paths && leb paths 65536) (not mirrored || eqb (paths % 2) 0)).0 pass

  pub paths_most : paths ≤ 65536
  paths_most =
      leb-true paths 65536
      ((and-eq-true_iff (leb 2 paths) (leb paths 65536)).0 both.0).1

  pub paths_even : mirrored ≡ true → paths % 2 ≡ 0
  paths_even = even mirrored paths both.1

-- ---- 19 and 28
pub paths_passed :
    (mirrored : Bool) (paths : ℕ) → first_no (path_questions mirrored paths) ≡ passed
    → paths_pass mirrored paths ≡ true
unfolding path_questions
paths_passed mirrored paths h = passed_head (ask Paths (paths_pass mirrored paths)) _ h

-- ---- 19, 28, 20 and 21
pub prepared :
    (b : Handed) (draws lent : List Float) → Ready b
    → first_no
    (batch_questions b.simulation.grid b.mirrored b.paths (length draws) (length lent))
    ≡ passed
    → Prepared b draws lent
prepared b draws lent ready all =
    let grid = b.simulation.grid in
    let drawn = ask Draws (eqb (length draws) (draws_needed b.mirrored b.paths grid.total)) in
    let rows = ask Lengths (eqb (length lent) (b.paths * grid.count)) in
    let before = path_questions b.mirrored b.paths in
    let lengths = drawn ∷ rows ∷ [] in
    let pass = paths_passed b.mirrored b.paths (passed_first before lengths all) in
    let rest = passed_then before lengths all in
    record {
      admitted = ready.admitted;
      form = ready.form;
      laid = ready.laid;
      most = paths_most b.mirrored b.paths pass;
      pairs = paths_even b.mirrored b.paths pass;
      drawn = eqb-true _ _ (passed_head drawn (rows ∷ []) rest);
      rows = eqb-true _ _ (passed_head rows [] (passed_tail drawn (rows ∷ []) rest));
    }
