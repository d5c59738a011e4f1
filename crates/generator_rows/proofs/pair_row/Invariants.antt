-- `pair_row` meets its contract. Assumes nothing.
use mathlib.Core.Path.{◌≡◌}
use Prim.Native.Nat.{ℕ, ◌≤◌, ◌<◌}
use lib.ListN.{length, get_or}
use lib.Ieee.{nan}
use Rattle.numeric.specs.Double.{plus, times}
use Rattle.generator_rows.proofs.pair_row.Given as goal

abbrev pub invariant-loop-column : goal.invariant-loop-column
invariant-loop-column l = record {
  long : length l.row ≡ 67;
  done : (c : ℕ) → c < l.column → get_or l.row c nan
      ≡ plus (get_or l.initial.row c nan) (times l.eta_squared (get_or l.variance c nan));
  rest : (c : ℕ) → l.column ≤ c → get_or l.row c nan ≡ get_or l.initial.row c nan;
}
