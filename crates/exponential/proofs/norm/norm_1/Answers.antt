use mathlib.Core.Path.{◌≡◌, ap, refl, ◌∙◌}
use native.Mathlib.Omega.{arith}
use lib.Ieee.{of_bits}
use Rattle.exponential.specs.Norm.{largest_sum, norm1}
use Rattle.exponential.proofs.Norms.{largest_more}
use Rattle.exponential.proofs.norm.norm_1.Goals as goal

pub loop-j-init : goal.loop-j-init
unfolding largest_sum of_bits
loop-j-init c = refl

pub loop-j-preserved : goal.loop-j-preserved
loop-j-preserved c =
    largest_more _ _ _ _ _ _ c.loop-j.invariant c.column_sum.ensures c.max-norm.ensures

pub returns : goal.returns
unfolding norm1
returns c =
    let all : c.loop-j.j ≡ c.args.dim = omega arith in
    c.loop-j.invariant ∙ ap (largest_sum c.args.dim c.args.m.now) all
