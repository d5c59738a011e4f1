-- `pair_coefficients` meets its contract. Assumes nothing.
use mathlib.Core.Path.{◌≡◌}
use mathlib.Core.List.{[], ◌∷◌}
use Prim.Native.Nat.{◌-◌}
use lib.ListN.{length}
use Rattle.model.specs.Inner.InUse.{kernel_in_use}
use Rattle.generator_rows.specs.Inner.Appended.{Appended}
use Rattle.generator_rows.specs.State.{pair_at, pairs_of_row}
use Rattle.generator_rows.specs.Rows.{pair_coefficient}
use Rattle.generator_rows.proofs.pair_coefficients.Given as goal

abbrev pub invariant-loop-j : goal.invariant-loop-j
invariant-loop-j l = record {
  long : length l.row ≡ 67;
  written :
      Appended (pair_at l.fn.k.n l.i l.i)
      (pairs_of_row (λ i j. pair_coefficient (kernel_in_use l.fn.k) l.p i j ∷ []) l.i (l.j - l.i))
      l.initial.row l.row;
}
