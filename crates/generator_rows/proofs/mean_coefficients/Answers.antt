use mathlib.Core.Path.{◌≡◌, refl, ◌∙◌}
use Prim.Native.Nat.{◌<◌}
use native.Mathlib.Omega.{arith}
use lib.ListN.{length, length-set}
use lib.Ieee.{of_bits}
use Rattle.generator_rows.proofs.Appending.{joined_none, single_store, front_is, length_singles}
use Rattle.generator_rows.proofs.Additions.{mean_coefficient_lem}
use Rattle.generator_rows.proofs.mean_coefficients.Goals as goal

pub loop-i-init : goal.loop-i-init
loop-i-init c = record { long = refl; written = joined_none _ }

pub loop-i-preserved : goal.loop-i-preserved
unfolding of_bits
loop-i-preserved c =
    let written = rw (← c.k.view_is) at c.loop-i.invariant.written in
    let inside : c.loop-i.i < length c.loop-i.row = omega arith in
    rw (← c.k.view_is)
    (record {
      long = length-set c.loop-i.row c.loop-i.i _ ∙ c.loop-i.invariant.long;
      written =
          single_store _ written inside (mean_coefficient_lem _ _ c.loop-i-test.true) (omega arith);
    })

pub returns : goal.returns
returns c =
    let n = c.k.inside.n in
    let all : c.loop-i.i ≡ n = omega arith in
    let written = rw (all, ← c.k.view_is) at c.loop-i.invariant.written in
    rw (← c.k.view_is) (front_is written (length_singles _ n))
