use mathlib.Core.Path.{sym}
use native.Mathlib.Omega.{arith}
use Rattle.batch.proofs.Sizes.{product_small, paths_most, paths_passed}
use Rattle.batch.proofs.questions.batch_questions.Goals as goal

pub draws_needed-needed-requires : goal.draws_needed-needed-requires
draws_needed-needed-requires c =
    (paths_most _ _ (paths_passed _ _ (sym c.in_ok-path_questions.ensures)), c.requires.short)

pub overflow_mul-rows : goal.overflow_mul-rows
overflow_mul-rows c =
    let few = paths_most _ _ (paths_passed _ _ (sym c.in_ok-path_questions.ensures)) in
    omega (arith, product_small c.args.paths c.args.grid.count few (omega (arith, c.requires.few)))
