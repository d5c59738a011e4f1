-- `vix::prepare` meets its contract: what its questions leave is in `proofs/Building.antt`. Assumes
-- nothing.
use mathlib.Core.Path.{◌≡◌, sym, ap, ◌∙◌}
use Prim.Native.Nat.{ℕ, ◌*◌}
use native.Mathlib.Omega.{arith}
use Rattle.std.proofs.lemmas.Result.{err_from_is_err_and}
use Rattle.generator_rows.specs.State.{dimension}
use Rattle.vix.proofs.Sizes.{dim_small}
use Rattle.vix.proofs.Building.{workspace_right, refused_early, not_finite, built}
use Rattle.vix.proofs.prepare.Goals as goal

-- the workspace stays as long as it was given, which is 5 matrices of the dimension
long : {filled given dim : ℕ} (n : ℕ) → filled ≡ given → given ≡ 5 * (dimension n * dimension n)
    → dim ≡ dimension n → filled ≡ 5 * (dim * dim)
long n same right is = same ∙ right ∙ ap (λ (n : ℕ). 5 * (n * n)) (sym is)

pub returns-in_err-window_questions : goal.returns-in_err-window_questions
returns-in_err-window_questions c =
    let args = c.args in
    let p = err_from_is_err_and c.from_residual.result c.from_residual.ensures.1 in
    rw (p.1, p.2, ← c.k.view_is)
    (refused_early _ args.p args.window args.workspace.now _
    (sym (rw (← c.k.view_is) at c.in_err-window_questions.ensures)))

pub fill-requires : goal.fill-requires
fill-requires c =
    let right = workspace_right _ _ _ (sym (rw (← c.k.view_is) at c.in_ok-window_questions.ensures)) in
    rw (← c.k.view_is) (omega (arith, right))

pub exponential-requires : goal.exponential-requires
exponential-requires c =
    let right = workspace_right _ _ _ (sym (rw (← c.k.view_is) at c.in_ok-window_questions.ensures)) in (
      dim_small c.k.invariant c.dimension_of-dim.ensures,
      long c.k.inside.n c.fill.auto.work right c.dimension_of-dim.ensures,
    )

pub of_matrix-requires : goal.of_matrix-requires
of_matrix-requires c =
    let right = workspace_right _ _ _ (sym (rw (← c.k.view_is) at c.in_ok-window_questions.ensures)) in
    let room = c.exponential.auto.work
    ∙ long c.k.inside.n c.fill.auto.work right c.dimension_of-dim.ensures in
    (c.k.invariant, c.dimension_of-dim.ensures, omega (arith, room))

pub returns-in_err-ok_or : goal.returns-in_err-ok_or
returns-in_err-ok_or c =
    let args = c.args in
    let passed = sym (rw (← c.k.view_is) at c.in_ok-window_questions.ensures) in
    let filled = rw (← c.k.view_is) at c.fill.ensures in
    let p = err_from_is_err_and c.from_residual-in_err-ok_or.result
    c.from_residual-in_err-ok_or.ensures.1 in
    rw (p.1, p.2, ← c.k.view_is)
    (not_finite _ args.p args.window args.workspace.now passed
    c.value-span.ensures c.fill.new.work filled
    c.dimension_of-dim.ensures c.exponential.ensures.answer c.exponential.new.work _
    c.in_err-ok_or.ensures.value)

pub returns : goal.returns
returns c =
    let args = c.args in
    let passed = sym (rw (← c.k.view_is) at c.in_ok-window_questions.ensures) in
    let filled = rw (← c.k.view_is) at c.fill.ensures in
    rw (← c.k.view_is)
    (built _ args.p args.window args.workspace.now passed
    c.value-span.ensures c.fill.new.work filled
    c.dimension_of-dim.ensures c.exponential.ensures.answer c.exponential.new.work
    c.of_matrix.result _ c.in_ok-ok_or.ensures.value c.in_ok-ok_or.ensures.ok_part
    c.exponential.ensures.result c.of_matrix.ensures)
