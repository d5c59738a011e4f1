use mathlib.Core.Path.{ap, ◌∙◌}
use Prim.Native.Nat.{ℕ}
use lib.ListN.{replicate}
use lib.Ieee.{of_bits}
use Rattle.numeric.specs.Double.{plus_zero}
use Rattle.matrix.specs.Matrix.{plus_identity}
use Rattle.matrix.proofs.Diagonal.{identity_is}
use Rattle.exponential.proofs.taylor.start.Goals as goal

pub returns-clause-value : goal.returns-clause-value
unfolding of_bits
returns-clause-value c =
    let n = c.args.dim in
    let long = c.scale.auto.m ∙ c.requires.0.1 in
    c.add_diagonal.ensures
    ∙ ap (plus_identity n)
    (c.fill.ensures.after (λ y e. e) ∙ ap (λ (k : ℕ). replicate k plus_zero) long)
    ∙ identity_is n
