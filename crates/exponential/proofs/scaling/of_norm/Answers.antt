use mathlib.Core.Path.{sym, ap, ◌∙◌, subst}
use native.Mathlib.Omega.{arith}
use lib.Dec.{T}
use lib.Ieee.{of_bits}
use Rattle.exponential.specs.Exponential.{two_to_minus, IsLeast}
use Rattle.exponential.proofs.Least.{squarings_least}
use Rattle.exponential.proofs.Powers.{searching_none, searching_under}
use Rattle.exponential.proofs.Powers.{searching_more, searching_done}
use Rattle.exponential.proofs.scaling.of_norm.Goals as goal

pub loop-bound-init : goal.loop-bound-init
unfolding of_bits
loop-bound-init c = searching_none _

pub loop-bound-smaller : goal.loop-bound-smaller
loop-bound-smaller c =
    omega
    (arith, searching_under _ _ _ _ c.requires c.loop-bound.invariant c.loop-bound-test.true)

pub loop-bound-preserved : goal.loop-bound-preserved
unfolding of_bits
loop-bound-preserved c =
    searching_more _ _ _ _ c.requires c.loop-bound.invariant c.loop-bound-test.true

pub returns : goal.returns
returns c =
    let e = searching_done _ _ _ _ c.requires c.loop-bound.invariant c.loop-bound-test.false in
    let double = subst T (sym c.well_formed.0.1) tt in
    let least =
    subst (IsLeast c.args.norm) (sym e) (squarings_least c.args.norm double c.requires) in
    record {
      squarings = e;
      factor = c.loop-bound.invariant.factor_is ∙ ap two_to_minus e;
      least = least;
    }
