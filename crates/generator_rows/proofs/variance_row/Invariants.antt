-- `variance_row` meets its contract. Assumes nothing.
use mathlib.Core.Path.{◌≡◌}
use mathlib.Core.List.{List, [], ◌∷◌}
use Prim.Native.Nat.{ℕ}
use lib.ListN.{length}
use lib.Ieee.{Float}
use Rattle.model.specs.declared.Kernel.{Kernel}
use Rattle.model.specs.declared.Params.{Params}
use Rattle.model.specs.Inner.InUse.{kernel_in_use}
use Rattle.generator_rows.specs.Inner.Appended.{Appended}
use Rattle.generator_rows.specs.State.{pairs_of_rows}
use Rattle.generator_rows.specs.Rows.{pair_coefficient}
use Rattle.generator_rows.proofs.variance_row.Given as goal

abbrev pub coefficient : Kernel → Params → ℕ → ℕ → List Float
coefficient k p i j = pair_coefficient (kernel_in_use k) p i j ∷ []

abbrev pub invariant-loop-i : goal.invariant-loop-i
invariant-loop-i l = record {
  long : length l.row ≡ 67;
  written :
      Appended l.fn.k.n (pairs_of_rows (coefficient l.fn.k l.p) l.fn.k.n l.i) l.initial.row l.row;
}
