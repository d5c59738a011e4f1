-- `loops::walk_group` meets its contract: what the walk side by side leaves in its own rows is
-- copied to the table and added to what the paths come to (`proofs/Groups.antt`). Assumes nothing.
use mathlib.Core.Path.{◌≡◌, sym, subst}
use Prim.Native.Nat.{ℕ, ◌+◌, ◌*◌, ◌≤◌}
use native.Mathlib.Omega.{arith}
use lib.ListN.{length}
use lib.Seq.{length-take-le}
use Rattle.walks.proofs.Handed.{draws_within}
use borrow.Author.Rules.{rules}
use Rattle.paths.proofs.Groups.{small_group, group_walked}
use Rattle.paths.proofs.loops.walk_group.Goals as goal

pub walk_four-requires : goal.walk_four-requires
walk_four-requires c =
    let batch = c.requires.prepared in
    record {
      form = batch.form;
      laid = batch.laid;
      most = omega (arith, c.requires.within, batch.most);
      drawn = λ l h. rw batch.drawn
          (draws_within c.args.batch.now.mirrored _ _ _ batch.pairs (omega (arith, c.requires.within)));
    }

pub write_rows-requires : goal.write_rows-requires
write_rows-requires c =
    let batch = c.requires.prepared in
    let count = c.args.batch.now.simulation.grid.count in
    let small = small_group _ _ _ _ _ batch.most batch.laid.short batch.laid.few c.requires.within
    batch.rows in
    let rows = c.walk_four.new.rows in
    let long : length rows ≡ 256 = search rules in
    let part = length-take-le (4 * count) rows (omega (arith, small.rows, long)) in
    subst (λ (x : ℕ). c.args.path * count + x ≤ length c.args.observations.now) (sym part)
    small.cells

pub returns : goal.returns
returns c =
    let batch = c.requires.prepared in
    let count = c.args.batch.now.simulation.grid.count in
    let rows = c.walk_four.new.rows in
    let four : length c.in_ok-lowest.lowest ≡ 4 = search rules in
    let long : length rows ≡ 256 = search rules in
    let fit : 4 * count ≤ length rows = omega (arith, batch.laid.few, long) in
    rw (c.with_ended-ended.ensures, c.observed-observed.ensures)
    (group_walked c.in_ok-lowest.ensures fit c.write_rows.ensures batch.admitted batch.laid.some
    four c.requires.ended)
