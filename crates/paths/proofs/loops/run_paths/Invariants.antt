-- `loops::run_paths` meets its contract. The loops' invariants and what a turn does to them are in
-- `proofs/Turns.antt`, what a group of four does to them in `proofs/Groups.antt`, and what the code
-- is handed in `walks/proofs/Handed.antt`. Assumes nothing.
use Prim.Native.Nat.{◌-◌}
use mathlib.Core.Path.{◌≡◌}
use lib.ListN.{get_or}
use lib.Ieee.{nan}
use Rattle.std.specs.Prelude.{Ok}
use Rattle.model.specs.Inner.Rates.{RatesOf}
use Rattle.model.specs.Inner.InUse.{state_in_use}
use Rattle.walks.specs.Inner.Handed.{batch_of}
use Rattle.paths.proofs.Turns.{Inner, Outer}
use Rattle.paths.proofs.loops.run_paths.Given as goal

abbrev pub invariant-loop-at : goal.invariant-loop-at
invariant-loop-at l =
    Inner (batch_of l.batch l.draws) l.path l.initial.observations l.observations l.initial.walked
    l.walked l.segment l.at (state_in_use l.batch.simulation.kernel.n l.s)
    × RatesOf l.batch.simulation.kernel (get_or l.batch.simulation.grid.dt l.segment nan)
    (get_or l.batch.simulation.grid.sqrt_dt l.segment nan) l.rates
    × (l.ended ≡ Ok tt)

abbrev pub invariant-paths : goal.invariant-paths
invariant-paths l =
    Outer (batch_of l.batch l.draws) l.payoff l.initial.observations l.observations l.path l.walked
    × (l.ended ≡ Ok tt)

abbrev pub decreases-paths : goal.decreases-paths
decreases-paths l =
    l.batch.paths - l.path
