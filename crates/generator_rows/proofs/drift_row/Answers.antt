use native.Mathlib.Omega.{arith}
use lib.Ieee.{of_bits}
use Rattle.generator_rows.proofs.Entries.{zeros}
use Rattle.generator_rows.proofs.Additions.{drift_first, drift_next, drift_all}
use Rattle.generator_rows.proofs.drift_row.Goals as goal

pub loop-m-init : goal.loop-m-init
unfolding of_bits
loop-m-init c =
    let own = rw (← c.k.view_is) at c.requires in
    rw (← c.k.view_is)
    (drift_first _ _ c.k.invariant own.0 own.1 zeros c.pair-own.ensures c.add_to.ensures)

pub loop-m-preserved : goal.loop-m-preserved
loop-m-preserved c =
    let own = rw (← c.k.view_is) at c.requires in
    let so_far = rw (← c.k.view_is) at c.loop-m.invariant in
    rw (← c.k.view_is)
    (drift_next _ _ c.k.invariant own.0 own.1 c.loop-m-test.true so_far
    c.pair-left.ensures c.add_to-in-loop-m.ensures c.pair-right.ensures
    c.add_to-in-loop-m-2.ensures)

pub returns : goal.returns
returns c =
    let own = rw (← c.k.view_is) at c.requires in
    let so_far = rw (← c.k.view_is) at c.loop-m.invariant in
    rw (← c.k.view_is)
    (drift_all _ _ c.k.invariant own.0 own.1 (omega arith) so_far)
