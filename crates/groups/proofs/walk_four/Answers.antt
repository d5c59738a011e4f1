use Prim.Native.Nat.{ℕ, suc, ◌<◌}
use mathlib.Core.Path.{◌≡◌, sym, ap, ◌∙◌, subst}
use native.Mathlib.Omega.{arith}
use lib.ListN.{get_or}
use Rattle.model.specs.declared.Kernel.{Kernel}
use Rattle.model.specs.declared.State.{State}
use Rattle.lanes.specs.Inner.Lanes.{lane_of}
use Rattle.model.specs.Inner.Laid.{Laid}
use Rattle.model.specs.TimeGrid.{last_step}
use Rattle.model.specs.Inner.InUse.{grid_in_use}
use Rattle.model.proofs.Containment.{laid_in_use, reached_open}
use lib.Seq.{get_or-take}
use Rattle.model.specs.Inner.InUse.{state_in_use}
use Rattle.groups.specs.Inner.Group.{FourWalked}
use Rattle.walks.proofs.Handed.{step_in_use}
use Rattle.model.specs.declared.TimeGrid.{TimeGrid}
use Rattle.walks.specs.Batch.{Batch}
use Rattle.lanes.specs.declared.Lanes.{Lanes}
use mathlib.Core.List.{List}
use lib.Ieee.{Float}
use Rattle.groups.proofs.Beside.{Beside, beside_first, beside_on, beside_write, beside_done, lane_at_start}
use Rattle.groups.proofs.walk_four.Invariants.{side_batch}
use Rattle.groups.proofs.walk_four.Goals.{then-at-sched, else-at-sched}
use Rattle.groups.proofs.walk_four.Goals as goal

-- ---- what the loop's head says of the segment

-- a turn is taken in a segment of the grid
within_at : {b : Batch} {n path segment at : ℕ} {s : Lanes} {factors : List (List Float)} {rows : List Float} → Laid b.simulation.grid → Beside b n path segment at s factors rows → at < b.simulation.grid.total → segment < b.simulation.grid.count
within_at {b} {n} {path} {segment} {at} laid h taken =
    reached_open b.simulation.grid laid segment at h.reached taken

-- there are 64 segments at most
segment_few : {b : Batch} {n path segment at : ℕ} {s : Lanes} {factors : List (List Float)} {rows : List Float} → Laid b.simulation.grid → Beside b n path segment at s factors rows → at < b.simulation.grid.total → segment < 64
segment_few laid h taken =
    omega (arith, within_at laid h taken, laid.few)

-- the last step of the segment
last_now : (sched : TimeGrid) (segment : ℕ) → segment < sched.count → get_or sched.last segment 0 ≡ last_step (grid_in_use sched) (suc segment)
last_now sched segment within =
    sym (get_or-take sched.count sched.last segment 0 within)

-- ---- before the loop

-- the size that was read off the opened kernel is that of the kernel given
size_of : {a b : Kernel} → a ≡ b → a.n ≡ b.n
size_of e = ap (λ (k : Kernel). k.n) e

-- every lane is at the start
pub loop-at-init : goal.loop-at-init
loop-at-init c =
    let m = c.args.batch.now.simulation in
    let all = rw (size_of c.k.view_is) at c.spread.ensures in
    let same : (l : ℕ) → l < 4 → lane_of m.kernel.n c.all_at-s.result c.spread.new.factors l ≡ state_in_use m.kernel.n m.start =
    lane_at_start m.kernel.n m.start c.all_at-s.result _ c.all_at-s.ensures all in (
      λ paths.
          beside_first _ (laid_in_use m.grid c.requires.laid) m.kernel.n c.args.path _ _ _
          (λ l h. same l h ∙ sym (same 0 (omega arith))),
      c.rates_at-rates.ensures,
    )

-- ---- a step: what it asks
pub offset_bounds-sched-segment : goal.offset_bounds-sched-segment
offset_bounds-sched-segment c =
    omega (arith, segment_few (laid_in_use c.args.batch.now.simulation.grid c.requires.laid) (c.loop-at.invariant.0 0) c.loop-at-test.true)

pub bounds-sched-segment : goal.bounds-sched-segment
bounds-sched-segment c =
    segment_few (laid_in_use c.args.batch.now.simulation.grid c.requires.laid) (c.loop-at.invariant.0 0) c.loop-at-test.true

pub overflow_add-segment : goal.overflow_add-segment
overflow_add-segment c =
    omega (arith, segment_few (laid_in_use c.args.batch.now.simulation.grid c.requires.laid) (c.loop-at.invariant.0 0) c.loop-at-test.true)

pub write_column-requires : goal.write_column-requires
write_column-requires c =
    (c.requires.laid.few, within_at (laid_in_use c.args.batch.now.simulation.grid c.requires.laid) (c.loop-at.invariant.0 0) c.loop-at-test.true)

-- ---- a step: what it leaves. Each lane's state is that of the plain walk
pub loop-at-preserved : goal.loop-at-preserved
loop-at-preserved c =
    let m = c.args.batch.now.simulation in
    let laid = laid_in_use m.grid c.requires.laid in
    let within = within_at laid (c.loop-at.invariant.0 0) c.loop-at-test.true in
    let steps = λ (l : ℕ) (h : l < 4).
    step_in_use m.grid c.requires.laid _ _ (c.loop-at.invariant.0 0).reached within m.kernel c.loop-at.rates c.loop-at.invariant.1 _ _ _ _ _ _ (c.draws_at-g.ensures l h)
    (c.try_step.ensures.moved c.if-not-try_step.false l h) in
    elim c.if-at-sched.branch [
      | then-at-sched w ↦
          rw (w.segment-is, w.rows-is, w.rates-is) (
            λ paths.
                beside_write laid (c.loop-at.invariant.0 paths) c.loop-at-test.true _ _ steps
                (w.if-at-sched.true ∙ last_now m.grid c.loop-at.segment within) _
                (λ l h. w.write_column.ensures.new l h ∙ w.observe-values.ensures m.kernel.n l c.requires.form h)
                w.write_column.ensures.kept,
            w.rates_at-rates-then-at-sched.ensures,
          )
      | else-at-sched w ↦
          rw (w.segment-is, w.rows-is, w.rates-is) (
            λ paths.
                beside_on laid (c.loop-at.invariant.0 paths) c.loop-at-test.true _ _ steps
                (λ e. w.if-at-sched.false (e ∙ sym (last_now m.grid c.loop-at.segment within))),
            c.loop-at.invariant.1,
          )
    ]

-- ---- the walk ends
pub returns : goal.returns
returns c =
    let b = c.args.batch.now in
    let all = rw (size_of c.k.view_is) at c.spread.ensures in
    subst (λ (x : State). FourWalked (side_batch b.simulation.kernel b.simulation.params x b.simulation.grid b.observation b.mirrored b.paths c.args.draws.now) c.args.path c.loop-at.rows c.loop-at.s.lowest)
    (lane_at_start b.simulation.kernel.n b.simulation.start c.all_at-s.result _ c.all_at-s.ensures all 0 (omega arith))
    (beside_done (laid_in_use b.simulation.grid c.requires.laid) (c.loop-at.invariant.0 b.paths) c.loop-at-test.false
    (c.all_finite.ensures c.if-not-all_finite.false))
