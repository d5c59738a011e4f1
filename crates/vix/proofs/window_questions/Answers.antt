-- `window_questions` meets its contract: the square of the dimension is small. Assumes nothing.
use native.Mathlib.Omega.{arith}
use Rattle.vix.proofs.Sizes.{size_small}
use Rattle.vix.proofs.window_questions.Goals as goal

pub overflow_mul-dim : goal.overflow_mul-dim
overflow_mul-dim c =
    omega (arith, size_small c.k.invariant c.dimension_of-dim.ensures)

pub overflow_mul-dim-2 : goal.overflow_mul-dim-2
overflow_mul-dim-2 c =
    omega (arith, size_small c.k.invariant c.dimension_of-dim.ensures)
