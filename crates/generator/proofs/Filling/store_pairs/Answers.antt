use Rattle.generator_rows.proofs.Appending.{rows_none}
use Rattle.generator.proofs.Storing.{all_pairs_more}
use Rattle.generator.proofs.Filling.store_pairs.Goals as goal

pub loop-i-init : goal.loop-i-init
loop-i-init c = rows_none _ _ _ _

pub loop-i-preserved : goal.loop-i-preserved
loop-i-preserved c =
    let f = c.args.self.now in
    all_pairs_more f.kernel f.params f.window c.loop-i.i c.loop-i.invariant
    c.store_pairs_of.ensures
