-- `groups::observe` meets its contract. Assumes nothing.
use mathlib.Core.Path.{◌≡◌, sym, ap, ◌∙◌}
use mathlib.Core.List.{List}
use Prim.Native.Nat.{ℕ, ◌≤◌}
use native.Mathlib.Omega.{arith}
use lib.Ieee.{Float}
use Rattle.vix.specs.declared.Vix.{Vix}
use Rattle.vix.specs.Form.{raw_squared}
use Rattle.vix.specs.Inner.Form.{vix_in_use}
use Rattle.vix.proofs.InUse.{squared_in_use}
use Rattle.lanes.specs.Inner.Lanes.{lane_factors}
use Rattle.vix_lanes.proofs.Forms.{lane_take}
use Rattle.groups.proofs.observe.Goals as goal

-- the form reads as many factors as it has
fewer : (v : Vix) (factors : List (List Float)) (n l : ℕ) → v.n ≤ n → raw_squared (vix_in_use v) (lane_factors v.n factors l) ≡ raw_squared (vix_in_use v) (lane_factors n factors l)
fewer v factors n l h =
    ap (raw_squared (vix_in_use v)) (sym (lane_take v.n n l factors h))
    ∙ squared_in_use v v.n (omega arith) (lane_factors n factors l)
    ∙ sym (squared_in_use v n h (lane_factors n factors l))
    ∙ ap (raw_squared (vix_in_use v)) (lane_take n n l factors (omega arith))

pub returns-in-VixSquared : goal.returns-in-VixSquared
returns-in-VixSquared c =
    let v = c.in-VixSquared.form in
    rw c.in-VixSquared.is (λ n l few h. c.squared.ensures l h ∙ fewer v c.args.factors.now n l few)
