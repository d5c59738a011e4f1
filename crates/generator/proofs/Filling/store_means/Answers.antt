use Rattle.generator_rows.proofs.Appending.{joined_none}
use Rattle.generator.proofs.Storing.{means_more}
use Rattle.generator.proofs.Filling.store_means.Goals as goal

pub loop-i-init : goal.loop-i-init
loop-i-init c = joined_none _

pub loop-i-preserved : goal.loop-i-preserved
loop-i-preserved c =
    let f = c.args.self.now in
    means_more f.kernel f.params f.window c.loop-i.i c.mean_row-row.result
    c.loop-i.invariant c.mean_row-row.ensures c.store_row.ensures
