-- `store_pairs` meets its contract. Assumes nothing.
use Prim.Native.Nat.{◌*◌}
use Rattle.generator_rows.specs.Inner.Appended.{Appended}
use Rattle.generator_rows.specs.State.{dimension, pairs_of_rows}
use Rattle.generator.specs.Inner.Filling.{pair_of}
use Rattle.generator.proofs.Filling.store_pairs.Given as goal

abbrev pub invariant-loop-i : goal.invariant-loop-i
invariant-loop-i l =
    Appended (l.self.kernel.n * dimension l.self.kernel.n)
    (pairs_of_rows (pair_of l.self) l.self.kernel.n l.i) l.initial.work l.work
