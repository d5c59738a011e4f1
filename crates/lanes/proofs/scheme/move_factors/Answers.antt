use mathlib.Core.Path.{◌∙◌}
use native.Mathlib.Omega.{arith}
use borrow.Author.Rules.{rules}
use lib.Ieee.{nan}
use Rattle.numeric.proofs.Doubles.{minus_zero_is}
use Rattle.lanes.proofs.Four.{four_same}
use Rattle.lanes.proofs.Moving.{going_none, going_more}
use Rattle.lanes.proofs.scheme.move_factors.Goals as goal

pub loop-i-init : goal.loop-i-init
loop-i-init c =
    (search rules, going_none _ _ _ _ _ (λ l h. four_same nan _ l h ∙ minus_zero_is))

pub loop-i-preserved : goal.loop-i-preserved
loop-i-preserved c = (
  search rules,
  going_more c.loop-i.i _ _ _ _ _ _ _ _ (omega arith) c.loop-i.invariant.1 c.move_row.ensures
      (λ l h. c.add_products-sum.ensures l h ∙ rw (four_same nan _ l h)),
)
