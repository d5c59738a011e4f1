use native.Mathlib.Omega.{arith}
use lib.Ieee.{of_bits}
use Rattle.generator_rows.proofs.Entries.{zeros}
use Rattle.generator_rows.proofs.Additions.{mean_first, mean_next, mean_all}
use Rattle.generator_rows.proofs.mean_row.Goals as goal

pub loop-m-init : goal.loop-m-init
unfolding of_bits
loop-m-init c =
    let own = rw (← c.k.view_is) at c.requires in
    rw (← c.k.view_is) (mean_first _ _ c.k.invariant own zeros c.add_to.ensures)

pub loop-m-preserved : goal.loop-m-preserved
loop-m-preserved c =
    let own = rw (← c.k.view_is) at c.requires in
    let so_far = rw (← c.k.view_is) at c.loop-m.invariant in
    rw (← c.k.view_is)
    (mean_next _ _ c.k.invariant own c.loop-m-test.true so_far c.add_to-in-loop-m.ensures)

pub returns : goal.returns
returns c =
    let own = rw (← c.k.view_is) at c.requires in
    let so_far = rw (← c.k.view_is) at c.loop-m.invariant in
    rw (← c.k.view_is) (mean_all _ _ c.k.invariant own (omega arith) so_far)
