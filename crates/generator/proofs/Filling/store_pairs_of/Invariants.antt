-- `store_pairs_of` meets its contract. Assumes nothing.
use Prim.Native.Nat.{◌-◌, ◌*◌}
use Rattle.generator_rows.specs.Inner.Appended.{Appended}
use Rattle.generator_rows.specs.State.{dimension, pair_at, pairs_of_row}
use Rattle.generator.specs.Inner.Filling.{pair_of}
use Rattle.generator.proofs.Filling.store_pairs_of.Given as goal

abbrev pub invariant-loop-j : goal.invariant-loop-j
invariant-loop-j l =
    Appended (pair_at l.self.kernel.n l.i l.i * dimension l.self.kernel.n)
    (pairs_of_row (pair_of l.self) l.i (l.j - l.i)) l.initial.work l.work
