use mathlib.Core.Path.{sym, ◌∙◌}
use native.Mathlib.Omega.{arith}
use lib.ListN.{get_or}
use lib.Ieee.{nan}
use Rattle.vix.specs.Form.{linear_value}
use Rattle.lanes.proofs.Four.{four_same}
use Rattle.vix_lanes.proofs.Forms.{linear_more}
use Rattle.vix_lanes.proofs.linear_values.Goals as goal

pub loop-i-init : goal.loop-i-init
unfolding linear_value
loop-i-init c =
    λ v l a b h. four_same nan _ l h ∙ sym a

pub loop-i-preserved : goal.loop-i-preserved
loop-i-preserved c =
    λ v l a b h.
    c.add_products-next.ensures l h
    ∙ rw (four_same nan (get_or c.args.linear.now c.loop-i.i nan) l h, sym b)
    (linear_more v c.args.n c.loop-i.i l c.args.factors.now _ (omega arith) (c.loop-i.invariant v l a b h))
