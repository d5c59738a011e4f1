-- `exponentiated` meets its contract. Assumes nothing.
use mathlib.Core.Path.{◌≡◌, sym, ap, ◌∙◌, subst}
use mathlib.Core.List.{List, ◌++◌}
use Prim.Native.Nat.{ℕ, ◌*◌}
use native.Mathlib.Omega.{arith}
use lib.ListN.{length, drop}
use lib.Ieee.{Float}
use Rattle.refusal.proofs.Laws.{exits}
use Rattle.matrix.specs.Inner.Workspace.{matrix_at}
use Rattle.matrix.proofs.Cells.{small}
use Rattle.matrix.proofs.Workspaces.{long_front, long_put, first_put}
use Rattle.exponential.specs.Norm.{norm1}
use Rattle.exponential.specs.Exponential.{IsLeast, exponential}
use Rattle.exponential.specs.Inner.Workspace.{exponentiated}
use Rattle.exponentiation.specs.Call.{matrix_inputs}
use Rattle.refusal.specs.declared.Refusal.TheVariants.{Exponential}
use Rattle.exponentiation.proofs.Answers.{sized, sizes_refused, not_finite, done}
use Rattle.exponentiation.proofs.Answers.{none_by, some_by}
use Rattle.exponentiation.proofs.exponentiated.Goals as goal

-- the workspace has the matrix, once it is copied
input_kept :
    (n : ℕ) (input new work : List Float) → new ≡ input → length input ≡ n * n
    → matrix_at n 0 (new ++ drop (n * n) work) ≡ input
input_kept n input new work e h = first_put n new work (ap length e ∙ h) ∙ e

pub returns-in_err-size_questions : goal.returns-in_err-size_questions
returns-in_err-size_questions c =
    rw (exits _ _ c.from_residual.ensures.1)
    (sizes_refused
    (matrix_inputs c.args.dim c.args.input.now c.args.output.now c.args.work.now) _
    (sym c.in_err-size_questions.ensures))

pub overflow_mul-size : goal.overflow_mul-size
overflow_mul-size c =
    let sizes = sized c.args.dim _ _ _ (sym c.in_ok-size_questions.ensures) in
    omega (arith, small sizes.shape.most)

pub slice_bounds-copy-end : goal.slice_bounds-copy-end
slice_bounds-copy-end c =
    let sizes = sized c.args.dim _ _ _ (sym c.in_ok-size_questions.ensures) in
    omega (arith, sizes.room)

pub slice_bounds-copy-end-2 : goal.slice_bounds-copy-end-2
slice_bounds-copy-end-2 c =
    long_front _ _ (sized c.args.dim _ _ _ (sym c.in_ok-size_questions.ensures)).room

pub copy-requires : goal.copy-requires
copy-requires c =
    let sizes = sized c.args.dim _ _ _ (sym c.in_ok-size_questions.ensures) in
    sizes.shape.input_is ∙ long_front _ _ sizes.room

pub exponential-requires : goal.exponential-requires
exponential-requires c =
    let sizes = sized c.args.dim _ _ _ (sym c.in_ok-size_questions.ensures) in
    (sizes.shape.most, long_put _ _ _ sizes.room c.copy.auto.into)

pub returns-in_err-squarings : goal.returns-in_err-squarings
returns-in_err-squarings c =
    let i = matrix_inputs c.args.dim c.args.input.now c.args.output.now c.args.work.now in
    let told = sym c.in_ok-size_questions.ensures in
    let sizes = sized c.args.dim _ _ _ told in
    let kept = input_kept _ _ _ c.args.work.now c.copy.ensures sizes.shape.input_is in
    let way = none_by c.exponential.result Exponential _ (sym c.ok_or.ensures.value ∙ c.in_err-squarings.was) in
    rw (exits _ _ c.from_residual-in_err-squarings.ensures.1, way.1)
    (not_finite i told _ (way.0 ∙ c.exponential.ensures.answer ∙ ap (exponentiated c.args.dim) kept))

pub slice_bounds-copy-end-3 : goal.slice_bounds-copy-end-3
slice_bounds-copy-end-3 c =
    let sizes = sized c.args.dim _ _ _ (sym c.in_ok-size_questions.ensures) in
    let put = long_put c.args.dim _ _ sizes.room c.copy.auto.into in
    omega (arith, put, c.exponential.auto.work)

pub slice_bounds-copy-end-4 : goal.slice_bounds-copy-end-4
slice_bounds-copy-end-4 c =
    let sizes = sized c.args.dim _ _ _ (sym c.in_ok-size_questions.ensures) in
    long_front _ _ (c.exponential.auto.work ∙ long_put _ _ _ sizes.room c.copy.auto.into)

pub copy-requires-2 : goal.copy-requires-2
copy-requires-2 c =
    let sizes = sized c.args.dim _ _ _ (sym c.in_ok-size_questions.ensures) in
    sym (long_front _ _ (c.exponential.auto.work ∙ long_put _ _ _ sizes.room c.copy.auto.into))
    ∙ sym sizes.shape.output_is

pub returns : goal.returns
returns c =
    let i = matrix_inputs c.args.dim c.args.input.now c.args.output.now c.args.work.now in
    let told = sym c.in_ok-size_questions.ensures in
    let sizes = sized c.args.dim _ _ _ told in
    let kept = input_kept _ _ _ c.args.work.now c.copy.ensures sizes.shape.input_is in
    let way = some_by c.exponential.result Exponential _ (sym c.ok_or.ensures.value ∙ c.in_ok-squarings.was) in
    let holds = rw (sym way) at c.exponential.ensures.result in
    let fewest = rw (sym way) at c.exponential.ensures.least in
    done i told _ c.in_ok-squarings.squarings _
    (way ∙ c.exponential.ensures.answer ∙ ap (exponentiated c.args.dim) kept)
    (c.copy-2.ensures ∙ holds ∙ ap (exponential c.args.dim) kept)
    (subst (λ (a : List Float). IsLeast (norm1 c.args.dim a) c.in_ok-squarings.squarings) kept fewest)
