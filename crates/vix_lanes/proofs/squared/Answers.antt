use mathlib.Core.Path.{◌≡◌, ap, ◌∙◌}
use Prim.Native.Nat.{ℕ, ◌<◌}
use Rattle.std.proofs.lemmas.Grind.{common_steps}
use lib.ListN.{get_or}
use lib.Ieee.{nan}
use Rattle.numeric.specs.Double.{times}
use native.Mathlib.Omega.{arith}
use Rattle.vix.specs.Coefficients.{Coefficients}
use Rattle.vix.specs.Form.{value_through}
use Rattle.lanes.specs.Inner.Lanes.{lane_factors}
use Rattle.vix_lanes.proofs.Forms.{squared_is}
use Rattle.vix_lanes.proofs.squared.Goals as goal

pub returns : goal.returns
returns c =
    let v = c.args.form.now in
    let n = ap (λ (v : Coefficients). v.n) c.form.view_is in
    let all : c.loop-i.i ≡ v.n = omega (arith, n) in
    let scaled : (l : ℕ) → l < 4 → get_or c.from_fn.result l nan ≡ times v.scale (get_or c.loop-i.value l nan) = grind (arith, common_steps) in
    λ l h.
    scaled l h
    ∙ squared_is v l c.args.factors.now _
    (c.loop-i.invariant l h ∙ ap (value_through v (lane_factors v.n c.args.factors.now l)) all)
