use mathlib.Core.Path.{◌≡◌, ap, ◌∙◌}
use Prim.Native.Nat.{◌<◌}
use native.Mathlib.Omega.{arith}
use lib.ListN.{length}
use Rattle.model.specs.Tables.{Tables}
use Rattle.generator_rows.specs.State.{dimension}
use Rattle.matrix.proofs.Cells.{row_end}
use Rattle.generator_rows.proofs.Places.{dimension_most}
use Rattle.generator.proofs.Storing.{row_none, row_more}
use Rattle.generator.proofs.Filling.store_row.Goals as goal

pub loop-column-init : goal.loop-column-init
loop-column-init c = row_none _ c.args.row.now _ _

pub bounds-row-column : goal.bounds-row-column
bounds-row-column c = omega (arith, c.dimension_of-dim.ensures, dimension_most c.kernel.invariant)

pub loop-column-preserved : goal.loop-column-preserved
loop-column-preserved c =
    let dim = c.dimension_of-dim.ensures ∙ ap (λ (v : Tables). dimension v.n) c.kernel.view_is in
    let most = dimension_most c.kernel.invariant in
    let inside : c.loop-column.column < length c.args.row.now =
    omega (arith, most, c.dimension_of-dim.ensures) in
    let own = rw (← dim) at c.requires in
    let end = row_end own.1 in
    row_more _ _ inside c.loop-column.invariant (omega (arith, own.0, end))

pub returns : goal.returns
returns c =
    let dim = c.dimension_of-dim.ensures ∙ ap (λ (v : Tables). dimension v.n) c.kernel.view_is in
    let all : c.loop-column.column ≡ c.dimension_of-dim.result = omega arith in
    let stored = rw all at c.loop-column.invariant in
    rw (← dim) stored
