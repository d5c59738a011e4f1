use mathlib.Core.Path.{sym, ap, ◌≡◌, ◌∙◌}
use Prim.Native.Nat.{◌≤◌, ◌+◌}
use native.Mathlib.Omega.{arith}
use borrow.Author.Rules.{rules}
use Rattle.std.specs.Prelude.{Ok, Err}
use Rattle.std.proofs.lemmas.Result.{err_from_is_err_and}
use Rattle.refusal.specs.declared.Quantity.{Quantity}
use Rattle.model.specs.declared.Kernel.{Kernel}
use Rattle.model.specs.declared.Simulation.{Simulation}
use Rattle.model.specs.Inner.Laid.{Laid}
use Rattle.trace.specs.Trace.{Tables}
use Rattle.trace.specs.Inner.Points.{Sized}
use Rattle.trace.proofs.Turns.{Prepared, at_draw, walked_none, point_written}
use Rattle.trace.proofs.Turns.{done_answer, done_tables, stop_answer, stop_tables}
use Rattle.trace.proofs.Turns.{walked_inside, walked_across}
use Rattle.trace.proofs.walk.walk.Goals.{then-at-grid, else-at-grid}
use Rattle.trace.proofs.walk.walk.Goals as goal

-- what the contract asks of the simulation and of the lent tables
prepared :
    {m : Simulation} {lent : Tables} → 1 ≤ m.kernel.n → Laid m.grid
    → Sized m.grid.total m.kernel.n lent → Prepared m lent
prepared n laid size = record { one = n; laid = laid; size = size }

-- the size that was read off the opened kernel is that of the kernel given
size_of : {a b : Kernel} → a ≡ b → a.n ≡ b.n
size_of e = ap (λ (k : Kernel). k.n) e

pub loop-at-init : goal.loop-at-init
loop-at-init c =
    let known = prepared c.requires.le_n c.requires.laid c.requires.sized in
    walked_none _ _ _ known _ c.rates_at-rates.ensures

-- the step that was taken, with the path's draw, is not finite
pub returns-in_err-map_err-clause-answer : goal.returns-in_err-map_err-clause-answer
returns-in_err-map_err-clause-answer c =
    let e : (q : Quantity) × (c.ensure_finite.result ≡ Err q)
    × (c.in_err-map_err.field-0.0 ≡ record { step = c.loop-at.at + 1; quantity = q }) =
    search rules in
    let known = prepared c.requires.le_n c.requires.laid c.requires.sized in
    let now = c.loop-at.invariant in
    let stepped = at_draw _ _ _ _ _ c.take_draw-g.ensures c.step-next.ensures in
    let p = err_from_is_err_and c.from_residual.result c.from_residual.ensures.1 in
    let fails = sym c.ensure_finite.ensures ∙ e.1 in
    rw (p.1, p.2)
    (ap Err e.2 ∙ stop_answer _ _ _ known now c.loop-at-test.true _ stepped _ fails)

pub returns-in_err-map_err-clause-tables : goal.returns-in_err-map_err-clause-tables
returns-in_err-map_err-clause-tables c =
    let e : (q : Quantity) × (c.ensure_finite.result ≡ Err q)
    × (c.in_err-map_err.field-0.0 ≡ record { step = c.loop-at.at + 1; quantity = q }) =
    search rules in
    let known = prepared c.requires.le_n c.requires.laid c.requires.sized in
    let now = c.loop-at.invariant in
    let stepped = at_draw _ _ _ _ _ c.take_draw-g.ensures c.step-next.ensures in
    let fails = sym c.ensure_finite.ensures ∙ e.1 in
    let written = point_written _ _ _ known now _ (rw (size_of c.kernel.view_is) at c.write_point.ensures) c.write_point.auto.factors in
    stop_tables _ _ _ known now c.loop-at-test.true _ stepped _ fails _ written

-- it is finite, and ends its segment or does not
pub loop-at-preserved : goal.loop-at-preserved
loop-at-preserved c =
    let fine : c.ensure_finite.result ≡ Ok tt = grind arith in
    let known = prepared c.requires.le_n c.requires.laid c.requires.sized in
    let now = c.loop-at.invariant in
    let more = c.loop-at-test.true in
    let stepped = at_draw _ _ _ _ _ c.take_draw-g.ensures c.step-next.ensures in
    let goes = sym c.ensure_finite.ensures ∙ fine in
    let written = point_written _ _ _ known now _ (rw (size_of c.kernel.view_is) at c.write_point.ensures) c.write_point.auto.factors in
    elim c.if-at-grid.branch [
      | then-at-grid w ↦
          rw (w.segment-is, w.rates-is)
          (walked_across _ _ _ known now more _ stepped goes _ written w.if-at-grid.true _
          w.rates_at-rates-then-at-grid.ensures)
      | else-at-grid w ↦
          rw (w.segment-is, w.rates-is)
          (walked_inside _ _ _ known now more _ stepped goes _ written w.if-at-grid.false)
    ]

-- the last point is written
pub returns-clause-answer : goal.returns-clause-answer
returns-clause-answer c =
    let known = prepared c.requires.le_n c.requires.laid c.requires.sized in
    let end : c.loop-at.at ≡ c.args.simulation.now.grid.total = omega arith in
    done_answer _ _ _ known c.loop-at.invariant end

pub returns-clause-tables : goal.returns-clause-tables
returns-clause-tables c =
    let known = prepared c.requires.le_n c.requires.laid c.requires.sized in
    let now = c.loop-at.invariant in
    let end : c.loop-at.at ≡ c.args.simulation.now.grid.total = omega arith in
    let written = point_written _ _ _ known now _ (rw end (rw (size_of c.kernel.view_is) at c.write_point-2.ensures)) c.write_point-2.auto.factors in
    done_tables _ _ _ known now _ end written
