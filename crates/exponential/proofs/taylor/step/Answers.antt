use mathlib.Core.Path.{ap, ◌∙◌}
use lib.Ieee.{of_bits}
use Rattle.matrix.specs.Matrix.{scaled, plus_identity}
use Rattle.exponential.specs.Exponential.{horner_step}
use Rattle.exponential.proofs.taylor.step.Goals as goal

pub returns : goal.returns
unfolding horner_step of_bits
returns c =
    c.add_diagonal.ensures
    ∙ ap (plus_identity c.args.dim)
    (c.scale.ensures ∙ ap (scaled _) (c.copy.ensures ∙ c.multiply.ensures))
