use mathlib.Core.Path.{ap, ◌∙◌}
use Prim.Native.Nat.{◌<◌}
use native.Mathlib.Omega.{arith}
use Rattle.model.specs.Tables.{Tables}
use Rattle.generator_rows.specs.State.{pair_at}
use Rattle.generator_rows.proofs.Places.{pair_inside}
use Rattle.generator_rows.proofs.Appending.{pair_none}
use Rattle.generator.proofs.Storing.{pairs_more}
use Rattle.generator.proofs.Filling.store_pairs_of.Goals as goal

pub loop-j-init : goal.loop-j-init
loop-j-init c = pair_none _ _ _ _

pub store_row-requires : goal.store_row-requires
store_row-requires c =
    let count = ap (λ (v : Tables). v.n) c.kernel.view_is in
    let below : c.loop-j.j < c.args.self.now.kernel.n = omega (arith, count) in
    let number =
    c.pair-number.ensures
    ∙ ap (λ (v : Tables). pair_at v.n c.args.i c.loop-j.j) c.kernel.view_is in
    (omega arith, omega (arith, number, pair_inside c.requires.1 below))

pub loop-j-preserved : goal.loop-j-preserved
loop-j-preserved c =
    let f = c.args.self.now in
    let number =
    c.pair-number.ensures
    ∙ ap (λ (v : Tables). pair_at v.n c.args.i c.loop-j.j) c.kernel.view_is in
    pairs_more f.kernel f.params f.window c.args.i c.loop-j.j c.pair-number.result
    c.pair_row-row.result c.loop-j.invariant (omega arith) number
    c.pair_row-row.ensures c.store_row.ensures
