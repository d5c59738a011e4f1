use mathlib.Core.Path.{ap, ◌∙◌}
use Prim.Native.Nat.{◌<◌}
use native.Mathlib.Omega.{arith}
use lib.ListN.{length, get_or, length-set}
use lib.Seq.{get_or-set_other}
use lib.Ieee.{Float, nan}
use Rattle.numeric.specs.Double.{plus, times}
use Rattle.numeric.proofs.Tables.{fill_next}
use Rattle.generator_rows.proofs.Places.{dimension_most}
use Rattle.generator_rows.proofs.Additions.{pair_all}
use Rattle.generator_rows.proofs.pair_row.Goals as goal

pub loop-column-preserved : goal.loop-column-preserved
loop-column-preserved c =
    let row = c.loop-column.row in
    let column = c.loop-column.column in
    let kept = c.loop-column.invariant.rest in
    let term =
    times (times c.args.p.eta c.args.p.eta) (get_or c.args.variance.now column nan) in
    let most = dimension_most c.k.invariant in
    let inside : column < length row = omega arith in
    record {
      long = length-set row _ _ ∙ c.loop-column.invariant.long;
      done =
          fill_next nan _ row column _ inside c.loop-column.invariant.done
          (ap (λ (x : Float). plus x term) (kept column (omega arith)));
      rest = λ x b.
          get_or-set_other row column x _ nan (λ e. absurd (omega arith)) ∙ kept x (omega arith);
    }

pub returns : goal.returns
returns c =
    let variance = rw (← c.k.view_is) at c.requires.variance_value in
    let drift = rw (← c.k.view_is) at c.drift_row-row.ensures in
    rw (← c.k.view_is)
    (pair_all _ _ _ _ c.args.variance.now c.drift_row-row.result c.loop-column.row
    c.loop-column.invariant.long c.k.invariant variance drift
    (λ column b. c.loop-column.invariant.done column (omega arith)))
