-- Rule 11.7: the generator of the moment system. Definitions only.
use Rattle.std.specs.Prelude.{List, replicate, Float}
use Rattle.numeric.specs.Double.{plus_zero}
use Rattle.model.specs.declared.Kernel.{Kernel}
use Rattle.model.specs.declared.Params.{Params}
use Rattle.matrix.specs.Matrix.{scaled}
use Rattle.generator_rows.specs.State.{in_state_order, pairs_before, dimension}
use Rattle.generator_rows.specs.Rows.{mean_row, pair_row, variance_row}

-- Rule 11.7: the rows in the state's order, the integral's being E[V] and the constant's zero; then
-- each entry is multiplied by the window.
unfoldable pub generator : Kernel → Params → Float → List Float
unfolding scaled in_state_order mean_row pair_row variance_row pairs_before
generator k p window =
    scaled window
    (in_state_order k.n (mean_row k p) (pair_row k p) (variance_row k p)
    (replicate (dimension k.n) plus_zero))
