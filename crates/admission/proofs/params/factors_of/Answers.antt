use Prim.Native.Nat.{ℕ, ◌<◌}
use native.Mathlib.Omega.{arith}
use lib.Ieee.{nan}
use lib.ListN.{get_or, length-set}
use mathlib.Core.Path.{◌∙◌}
use Rattle.numeric.proofs.Tables.{fill_next, take_is_tabulate}
use Rattle.decimal.specs.Decimal.{value}
use Rattle.model.specs.Parameters.{zero_decimal, factors_of}
use Rattle.admission.proofs.params.factors_of.Goals as goal

pub loop-i-preserved : goal.loop-i-preserved
loop-i-preserved c =
    let at = c.loop-i in (
      length-set at.converted at.i _ ∙ at.invariant.0,
      fill_next nan (λ (j : ℕ). value (get_or c.args.factors j zero_decimal)) at.converted at.i _ (omega arith) at.invariant.1 c.value.ensures,
    )

pub returns : goal.returns
unfolding factors_of
returns c =
    let at = c.loop-i in
    take_is_tabulate nan c.args.n _ at.converted (omega arith) (λ j (h : j < c.args.n). at.invariant.1 j (omega arith))
