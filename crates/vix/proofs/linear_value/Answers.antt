use mathlib.Core.Path.{ap}
use native.Mathlib.Numerals.{add-one}
use Rattle.vix.specs.Coefficients.{Coefficients}
use Rattle.vix.specs.Form.{linear_value}
use Rattle.vix.proofs.linear_value.Goals as goal

pub loop-i-preserved : goal.loop-i-preserved
unfolding linear_value
loop-i-preserved c =
    let linear = ap (λ (v : Coefficients). v.linear) c.v.view_is in
    rw (add-one, c.loop-i.invariant, linear)
