-- `dimension_of` meets its contract. Assumes nothing.
use native.Mathlib.Omega.{arith}
use Rattle.generator_rows.proofs.Places.{dimension_most}
use Rattle.generator_rows.proofs.state.dimension_of.Goals as goal

pub overflow_add-result : goal.overflow_add-result
overflow_add-result c =
    omega (arith, c.pairs_before.ensures, dimension_most c.requires)

pub overflow_add-result-2 : goal.overflow_add-result-2
overflow_add-result-2 c =
    omega (arith, c.pairs_before.ensures, dimension_most c.requires)
