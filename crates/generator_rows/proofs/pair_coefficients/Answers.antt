use mathlib.Core.Path.{◌≡◌, ◌∙◌}
use mathlib.Core.Bool.{cond}
use Prim.Native.Nat.{◌≤◌, ◌<◌}
use native.Mathlib.Omega.{arith}
use lib.Dec.{eqb}
use lib.ListN.{length, length-set}
use lib.Ieee.{of_bits}
use Rattle.numeric.specs.Double.{one, two}
use Rattle.generator_rows.proofs.Places.{pair_after, pair_most}
use Rattle.generator_rows.proofs.Appending.{pair_none, pair_store}
use Rattle.generator_rows.proofs.Additions.{once, twice, pair_coefficient_lem}
use Rattle.generator_rows.proofs.pair_coefficients.Goals.{then-i-j, else-i-j}
use Rattle.generator_rows.proofs.pair_coefficients.Goals as goal

pub loop-j-init : goal.loop-j-init
loop-j-init c = record { long = c.told-row; written = pair_none _ _ _ _ }

pub loop-j-preserved : goal.loop-j-preserved
unfolding of_bits
loop-j-preserved c =
    let own = rw (← c.k.view_is) at c.requires in
    let written = rw (← c.k.view_is) at c.loop-j.invariant.written in
    let multiplicity : c.if-i-j.multiplicity ≡ cond (eqb c.args.i c.loop-j.j) one two =
    elim c.if-i-j.branch [
      | then-i-j w ↦ w.multiplicity-is ∙ once w.if-i-j.true
      | else-i-j w ↦ w.multiplicity-is ∙ twice w.if-i-j.false
    ] in
    let within : c.args.i ≤ c.loop-j.j = omega arith in
    let inside : c.pair-place.result < length c.loop-j.row =
    omega (arith, pair_most c.k.invariant own c.loop-j-test.true) in
    rw (← c.k.view_is)
    (record {
      long = length-set c.loop-j.row _ _ ∙ c.loop-j.invariant.long;
      written =
          pair_store _ written within inside
          (pair_coefficient_lem _ _ own c.loop-j-test.true multiplicity)
          (c.pair-place.ensures ∙ pair_after c.k.inside.n within);
    })
