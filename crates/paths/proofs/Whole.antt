-- From the entries, row by row, to the whole table. Assumes nothing.
use mathlib.Core.Path.{◌≡◌}
use mathlib.Core.List.{List}
use Prim.Native.Nat.{ℕ, suc, ◌+◌, ◌*◌, ◌/◌, ◌%◌, ◌<◌, ◌≤◌}
use native.Mathlib.Nat.{div-add-mod', div-lt_iff_lt-mul, mod-lt}
use native.Mathlib.Omega.{arith}
use lib.Ieee.{Float, nan}
use lib.ListN.{length, get_or}
use Rattle.numeric.proofs.Tables.{is_tabulate}
use Rattle.walks.specs.Batch.{Batch}
use Rattle.paths.specs.Run.{entry_after, table_after}

pub whole : (b : Batch) (lent seen : List Float) → 1 ≤ b.simulation.grid.count → length lent
    ≡ b.paths * b.simulation.grid.count → length seen ≡ length lent
    → ((q j : ℕ) → q < b.paths → j < b.simulation.grid.count
    → get_or seen (q * b.simulation.grid.count + j) nan
    ≡ entry_after b (suc q) (suc j) (get_or lent (q * b.simulation.grid.count + j) nan)) → seen
    ≡ table_after b lent
unfolding table_after
whole b lent seen one long same entries =
    is_tabulate nan (length lent) _ seen same
    (λ x h.
    let n = b.simulation.grid.count in
    let at : x / n * n + x % n ≡ x = div-add-mod' x n in
    let below : x < b.paths * n = omega arith in
    rw at at (entries (x / n) (x % n) ((div-lt_iff_lt-mul one).1 below) (mod-lt x one)))
