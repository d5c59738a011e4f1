-- `horner` meets its contract. Assumes nothing.
use mathlib.Core.Path.{◌≡◌}
use Prim.Native.Nat.{◌-◌}
use Rattle.exponential.specs.Exponential.{horner}
use Rattle.exponential.proofs.taylor.horner.Given as goal

abbrev pub invariant-loop-degree : goal.invariant-loop-degree
invariant-loop-degree l = l.value ≡ horner l.dim l.argument (18 - l.degree)
