use mathlib.Core.Path.{refl, ap}
use native.Mathlib.Numerals.{add-one}
use Rattle.vix.specs.Coefficients.{Coefficients}
use Rattle.vix.specs.Form.{row_value}
use Rattle.vix.proofs.row_value.Goals as goal

pub loop-k-init : goal.loop-k-init
unfolding row_value
loop-k-init c =
    refl

pub loop-k-preserved : goal.loop-k-preserved
unfolding row_value
loop-k-preserved c =
    let pairs = ap (λ (v : Coefficients). v.pairs) c.v.view_is in
    rw (add-one, c.loop-k.invariant, c.requires.1, pairs)
