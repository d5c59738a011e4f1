-- `decimal::divide::Wide::by_fives` meets its contract. The loop's invariant: 5 ^ (scale - left)
-- is divided out. Assumes nothing.
use Prim.Native.Nat.{◌-◌, ◌^◌, ◌≤◌}
use Rattle.decimal.specs.Inner.Steps.{number, IsQuotient}
use Rattle.decimal.proofs.divide.Wide.by_fives.Given as goal

abbrev pub invariant-loop-left : goal.invariant-loop-left
invariant-loop-left l =
    (l.left ≤ l.scale) × IsQuotient (number l.fn.self) (5 ^ (l.scale - l.left)) l.q

abbrev pub decreases-loop-left : goal.decreases-loop-left
decreases-loop-left l =
    l.left
