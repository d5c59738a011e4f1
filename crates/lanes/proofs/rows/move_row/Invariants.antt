-- `lanes::rows::move_row` meets its contract. Assumes nothing.
use Prim.Native.Nat.{ℕ, ◌≤◌, ◌<◌}
use mathlib.Core.Path.{◌≡◌}
use lib.ListN.{length, get_or}
use lib.Ieee.{nan}
use Rattle.numeric.specs.Double.{plus, over}
use Rattle.lanes.proofs.rows.move_row.Given as goal

-- the first l factors of the row are moved, and the others are as before
abbrev pub invariant-loop-l : goal.invariant-loop-l
invariant-loop-l l =
    (length l.row ≡ 4)
    × ((j : ℕ) → j < l.l → get_or l.row j nan ≡ over (plus (get_or l.initial.row j nan) (get_or l.forcing j nan)) l.divisor)
    × ((j : ℕ) → l.l ≤ j → get_or l.row j nan ≡ get_or l.initial.row j nan)
