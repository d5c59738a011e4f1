use mathlib.Core.Path.{◌≡◌, refl, sym, ◌∙◌, ap, subst}
use mathlib.Core.List.{List}
use Prim.Native.Nat.{ℕ}
use native.Mathlib.Omega.{arith}
use lib.ListN.{length}
use lib.Ieee.{Float}
use lib.Seq.{get_or-take}
use Rattle.std.specs.Prelude.{Result, Ok, Err}
use Rattle.std.proofs.lemmas.Result.{err_from_is_err_and}
use Rattle.model.proofs.Containment.{laid_in_use, reached_open}
use Rattle.walks.specs.Batch.{Batch}
use Rattle.walks.proofs.Handed.{finite_in_use, observed_in_use, step_in_use}
use Rattle.estimates.specs.declared.Payoff.{Payoff}
use Rattle.paths.specs.declared.Walked.{Walked}
use Rattle.paths.specs.declared.Refused.{Refused}
use Rattle.paths.specs.Run.{table_after}
use Rattle.paths.specs.Inner.Handed.{run_answer, BatchRun}
use Rattle.paths.proofs.Turns.{Outer, small, turn_first, next_state, turn_on, turn_write}
use Rattle.paths.proofs.Turns.{path_first, path_next, run_ends, entries_end, run_done, entries_done}
use Rattle.paths.proofs.Groups.{path_four}
use Rattle.paths.proofs.Whole.{whole}
use Rattle.paths.proofs.loops.run_paths.Goals.{then-step-grid, else-step-grid}
use Rattle.paths.proofs.loops.run_paths.Goals.{then-next_group-path+then-path-batch+in_default}
use Rattle.paths.proofs.loops.run_paths.Goals.{else-next_group-path}
use Rattle.paths.proofs.loops.run_paths.Goals.{else-paths-test}
use Rattle.paths.proofs.loops.run_paths.Goals.{then-paths-test+then-loop-at-test+in-Err}
use Rattle.paths.proofs.loops.run_paths.Goals as goal

-- the outer loop, over the table as a group that is not sure leaves it
outer_now : {b : Batch} {payoff : Payoff} {lent seen seen' : List Float} {path : ℕ} {w : Walked}
    → seen' ≡ seen → Outer b payoff lent seen path w → Outer b payoff lent seen' path w
outer_now {b} {payoff} {lent} {seen} {seen'} {path} {w} same o =
    subst (λ (x : List Float). Outer b payoff lent x path w) (sym same) o

ran : {b : Batch} {payoff : Payoff} {lent after : List Float} {r : Result Walked Refused} → r
    ≡ run_answer b payoff → after ≡ table_after b lent → BatchRun b payoff lent after r
ran a t = record { answer = a; table = t }

-- the paths ended well or not
not_both : (ended : Result Unit Refused) (r : Refused) → ended ≡ Ok tt → ended ≡ Err r → ⊥
not_both ended r e f = let z : ◌≡◌ {A = ℕ} 0 1 = cc in omega arith

by_failure : (ended : Result Unit Refused) (r r' : Refused) → ended ≡ Err r → ended ≡ Err r'
    → ◌≡◌ {A = Result Walked Refused} (Err r) (Err r')
by_failure ended r r' e f = let same : r ≡ r' = cc in ap Err same

-- ---- before the loops
pub paths-init : goal.paths-init
paths-init c = (
  path_first (laid_in_use c.args.batch.now.simulation.grid c.requires.laid) c.requires.rows
      c.new-walked.ensures,
  refl,
)

-- ---- a group of four paths
pub paths-preserved-in-Some : goal.paths-preserved-in-Some
paths-preserved-in-Some c =
    (path_four c.paths.invariant.0 c.if-path-batch.true c.in-Some.ensures, c.paths.invariant.1)

-- ---- a path begins
pub loop-at-init : goal.loop-at-init
loop-at-init c =
    let same : c.if-next_group-path.observations ≡ c.paths.observations =
    elim c.if-next_group-path.branch [
      | then-next_group-path+then-path-batch+in_default w ↦ w.observations-is ∙ w.in_default.ensures
      | else-next_group-path w ↦ w.observations-is
    ] in
    let laid = laid_in_use c.args.batch.now.simulation.grid c.requires.laid in
    let before = c.paths.invariant.0 in (
      turn_first laid before.ended.counted (ap length same ∙ before.long),
      c.rates_at-first.ensures,
      c.paths.invariant.1,
    )

-- ---- a step
pub bounds-observations-path : goal.bounds-observations-path
bounds-observations-path c =
    let laid = laid_in_use c.args.batch.now.simulation.grid c.requires.laid in
    omega (
      arith,
      small laid c.loop-at.invariant.0 c.requires.most c.paths-test.true
          c.loop-at-test.true,
      c.loop-at.invariant.0.long,
    )

pub loop-at-preserved : goal.loop-at-preserved
loop-at-preserved c =
    let batch = c.args.batch.now in
    let grid = batch.simulation.grid in
    let n = batch.simulation.kernel.n in
    let laid = laid_in_use grid c.requires.laid in
    let inner = c.loop-at.invariant.0 in
    let within = reached_open _ laid _ _ inner.reached c.loop-at-test.true in
    let stepped =
    step_in_use grid c.requires.laid _ _ inner.reached within batch.simulation.kernel
    c.loop-at.rates c.loop-at.invariant.1 _ _ _ _ _ _ c.at-g.ensures c.step-s.ensures in
    let finite = finite_in_use n c.step-s.result ∙ sym c.ensure_finite.ensures
    ∙ c.in_default-ensure_finite.is in
    let last = sym (get_or-take grid.count grid.last _ 0 within) in
    elim c.if-step-grid.branch [
      | then-step-grid w ↦
          rw (w.observations-is, w.rates-is, w.segment-is) (
            turn_write laid inner c.loop-at-test.true stepped finite c.paths-test.true
                (w.if-step-grid.true ∙ last)
                (w.observe.ensures ∙ observed_in_use batch.observation n c.requires.form _),
            w.rates_at-rates.ensures,
            c.loop-at.invariant.2,
          )
      | else-step-grid w ↦
          rw (w.observations-is, w.rates-is, w.segment-is) (
            turn_on laid inner c.loop-at-test.true stepped finite
                (λ e. w.if-step-grid.false (e ∙ sym last)),
            c.loop-at.invariant.1,
            c.loop-at.invariant.2,
          )
    ]

-- ---- a path ends
pub paths-preserved : goal.paths-preserved
paths-preserved c =
    let same : c.if-next_group-path.observations ≡ c.paths.observations =
    elim c.if-next_group-path.branch [
      | then-next_group-path+then-path-batch+in_default w ↦ w.observations-is ∙ w.in_default.ensures
      | else-next_group-path w ↦ w.observations-is
    ] in
    let laid = laid_in_use c.args.batch.now.simulation.grid c.requires.laid in
    let before = outer_now same c.paths.invariant.0 in (
      path_next laid before c.paths-test.true c.loop-at.invariant.0 c.loop-at-test.false
          c.requires.admitted
          c.observed-observed.ensures c.with_ended-walked.ensures,
      c.loop-at.invariant.2,
    )

-- ---- the run ends
-- at a step that is not finite
pub returns-in_err-ended : goal.returns-in_err-ended
returns-in_err-ended c =
    let p = err_from_is_err_and c.from_residual.result c.from_residual.ensures.1 in
    let batch = c.args.batch.now in
    let grid = batch.simulation.grid in
    let n = batch.simulation.kernel.n in
    let laid = laid_in_use grid c.requires.laid in
    rw (p.1, p.2)
    (elim c.paths-test.branch [
      | else-paths-test w ↦
          absurd (not_both _ _ (w.ended-is ∙ c.paths.invariant.1) c.in_err-ended.was)
      | then-paths-test+then-loop-at-test+in-Err w ↦
          let same : w.if-next_group-path.observations ≡ c.paths.observations =
          elim w.if-next_group-path.branch [
            | then-next_group-path+then-path-batch+in_default w' ↦ w'.observations-is
                ∙ w'.in_default.ensures
            | else-next_group-path w' ↦ w'.observations-is
          ] in
          let before = outer_now same c.paths.invariant.0 in
          let inner = w.loop-at.invariant.0 in
          let within = reached_open _ laid _ _ inner.reached w.loop-at-test.true in
          let stepped =
          step_in_use grid c.requires.laid _ _ inner.reached within batch.simulation.kernel
          w.loop-at.rates w.loop-at.invariant.1 _ _ _ _ _ _ w.at-g.ensures w.step-s.ensures in
          let state = next_state laid inner w.loop-at-test.true stepped in
          let fails = finite_in_use n w.step-s.result ∙ sym w.ensure_finite.ensures ∙ w.in-Err.is in
          let long = ap length w.observations-is ∙ inner.long ∙ sym c.requires.rows in
          ran
          (by_failure _ _ _ c.in_err-ended.was w.ended-is ∙ ap Err w.stopped.ensures
          ∙ sym (run_ends laid before w.paths-test.true inner w.loop-at-test.true state fails))
          (whole _ _ _ laid.some c.requires.rows long
          (λ q j l m. rw w.observations-is
          (entries_end laid before w.paths-test.true inner w.loop-at-test.true state fails q j l
          m)))
    ])

-- after the last path
pub returns : goal.returns
returns c =
    let laid = laid_in_use c.args.batch.now.simulation.grid c.requires.laid in
    let before = c.paths.invariant.0 in
    elim c.paths-test.branch [
      | else-paths-test w ↦
          let long = ap length w.observations-is ∙ before.long ∙ sym c.requires.rows in
          ran (ap Ok w.walked-is ∙ sym (run_done laid before w.paths-test.false))
          (whole _ _ _ laid.some c.requires.rows long
          (λ q j l m. rw w.observations-is (entries_done laid before w.paths-test.false q j l m)))
      | then-paths-test+then-loop-at-test+in-Err w ↦ absurd (not_both _ _ c.in_ok-ended.was w.ended-is)
    ]
