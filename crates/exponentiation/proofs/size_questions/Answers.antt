use native.Mathlib.Omega.{arith}
use Rattle.refusal.proofs.Laws.{yes}
use Rattle.matrix.proofs.Cells.{small}
use Rattle.exponentiation.proofs.Answers.{right}
use Rattle.exponentiation.proofs.size_questions.Goals as goal

pub overflow_mul-dim : goal.overflow_mul-dim
overflow_mul-dim c =
    omega (arith, small (right _ _ _ (yes _ (rw c.shape_is_right.ensures at c.in_ok-ensure.ensures))).most)

pub overflow_mul-dim-2 : goal.overflow_mul-dim-2
overflow_mul-dim-2 c =
    omega (arith, small (right _ _ _ (yes _ (rw c.shape_is_right.ensures at c.in_ok-ensure.ensures))).most)
