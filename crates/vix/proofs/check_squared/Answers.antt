-- `check_squared` meets its contract. Assumes nothing.
use mathlib.Core.Path.{◌≡◌, sym, ◌∙◌}
use mathlib.Core.Bool.{true}
use lib.Ieee.{of_bits}
use Rattle.numeric.specs.Double.{finite}
use Rattle.numeric.proofs.Above.{above_zero}
use Rattle.vix.specs.Evaluation.{checked}
use Rattle.vix.proofs.check_squared.Goals as goal

pub returns-then-squared : goal.returns-then-squared
unfolding of_bits checked
returns-then-squared c =
    let is : finite c.args.squared ≡ true = sym c.is_finite.ensures ∙ c.if-not-is_finite.false in
    rw (is, above_zero c.args.squared is, c.if-squared.true)

pub returns : goal.returns
unfolding of_bits checked
returns c =
    let is : finite c.args.squared ≡ true = sym c.is_finite.ensures ∙ c.if-not-is_finite.false in
    rw (is, above_zero c.args.squared is, c.if-squared.false)
