use mathlib.Core.Path.{◌≡◌, sym, ap, ◌∙◌}
use native.Mathlib.Omega.{arith}
use lib.Ieee.{Float}
use Rattle.numeric.specs.Double.{times}
use Rattle.vix.specs.Coefficients.{Coefficients}
use Rattle.vix.specs.Form.{value_through, raw_squared}
use Rattle.vix.proofs.InUse.{squared_in_use}
use Rattle.vix.proofs.raw_squared.Goals as goal

pub returns : goal.returns
unfolding raw_squared
returns c =
    let v = c.args.v in
    let count = ap (λ (x : Coefficients). x.n) c.v.view_is in
    let e : c.loop-i.i ≡ v.n = omega (arith, count, c.loop-i-test.false) in
    ap (λ (x : Coefficients). times x.scale c.loop-i.value) c.v-2.view_is
    ∙ ap (λ (x : Float). times v.scale x) (c.loop-i.invariant
    ∙ ap (value_through v c.args.factors) e)
    ∙ sym (squared_in_use v v.n (omega arith) c.args.factors)
