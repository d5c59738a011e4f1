-- `lanes::scheme::step_with` meets its contract. Assumes nothing.
use Prim.Native.Nat.{ℕ, ◌<◌}
use mathlib.Core.Path.{◌≡◌}
use lib.ListN.{length, get_or}
use lib.Ieee.{nan}
use Rattle.numeric.specs.Double.{plus, times}
use Rattle.lanes.proofs.Moving.{diffusion_of, forcing_of}
use Rattle.lanes.proofs.scheme.step_with.Given as goal

abbrev pub invariant-loop-l : goal.invariant-loop-l
invariant-loop-l l =
    (length l.spot ≡ 4) × (length l.forcing ≡ 4) × ((j : ℕ) → j < l.l → get_or l.forcing j nan ≡ forcing_of l.p l.rates.dt (get_or l.old_z j nan) (diffusion_of l.rates.sqrt_dt (get_or l.roots j nan) (get_or l.g j nan)))
    × ((j : ℕ) → j < l.l → get_or l.spot j nan ≡ plus (get_or l.old_spot j nan) (times (get_or l.old_spot j nan) (diffusion_of l.rates.sqrt_dt (get_or l.roots j nan) (get_or l.g j nan))))
