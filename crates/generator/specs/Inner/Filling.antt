-- What a filling stores. Definitions only.
use Rattle.std.specs.Prelude.{ℕ, ◌*◌, ◌≤◌, List, length, Float}
use Rattle.model.specs.Inner.InUse.{kernel_in_use}
use Rattle.matrix.specs.Matrix.{scaled}
use Rattle.generator_rows.specs.State.{dimension}
use Rattle.generator_rows.specs.Rows.{mean_row, pair_row}
use Rattle.generator.specs.declared.Filling.{Filling}

-- the row of mean i, each entry times the window
abbrev pub mean_of : Filling → ℕ → List Float
mean_of f i = scaled f.window (mean_row (kernel_in_use f.kernel) f.params i)

-- and the row of the pair (i, j)
abbrev pub pair_of : Filling → ℕ → ℕ → List Float
pair_of f i j = scaled f.window (pair_row (kernel_in_use f.kernel) f.params i j)

-- the whole matrix fits
abbrev pub HasRoom : Filling → List Float → Type 0
HasRoom f work = dimension f.kernel.n * dimension f.kernel.n ≤ length work
