-- `mean_coefficients` meets its contract. Assumes nothing.
use mathlib.Core.Path.{◌≡◌}
use mathlib.Core.List.{[], ◌∷◌}
use lib.ListN.{length}
use Rattle.model.specs.Inner.InUse.{kernel_in_use}
use Rattle.generator_rows.specs.Inner.Appended.{Appended}
use Rattle.generator_rows.specs.State.{joined}
use Rattle.generator_rows.specs.Rows.{mean_coefficient}
use Rattle.generator_rows.proofs.mean_coefficients.Given as goal

abbrev pub invariant-loop-i : goal.invariant-loop-i
invariant-loop-i l = record {
  long : length l.row ≡ 67;
  written :
      Appended 0 (joined (λ i. mean_coefficient (kernel_in_use l.fn.k) l.p i ∷ []) l.i)
      l.initial.row l.row;
}
