-- The batch that stands for what the code is handed, in arrays of which the first places are in
-- use. Definitions only.
use Rattle.std.specs.Prelude.{List, ℕ, Float}
use Rattle.model.specs.declared.State.{State}
use Rattle.model.specs.Inner.InUse.{simulation_in_use}
use Rattle.vix.specs.Form.{raw_squared}
use Rattle.vix.specs.Inner.Form.{vix_in_use}
use Rattle.walks.specs.declared.Batch.{Batch as Handed}
use Rattle.walks.specs.declared.Observation.{Observation}
use Rattle.walks.specs.declared.Observation.TheVariants.{Spot, VixSquared}
use Rattle.walks.specs.declared.Observed.{Observed}
use Rattle.walks.specs.declared.Observed.TheVariants as kind
use Rattle.walks.specs.Batch.{Batch, batch_on}

-- Rule 9.1: whether the spot is observed or the VIX squared
abbrev pub observed_of : Observation → Observed
observed_of Spot = kind.Spot
observed_of (VixSquared v) = kind.VixSquared

-- how many factors an observation reads
abbrev pub factors_read : Observation → ℕ
factors_read Spot = 0
factors_read (VixSquared v) = v.n

-- Rule 9.1: what is observed of a state: the spot, or the raw VIX squared
abbrev pub observe_by : Observation → State → Float
observe_by Spot s = s.spot
observe_by (VixSquared v) s = raw_squared (vix_in_use v) s.factors

-- Rule 9.1: the batch of what is handed, over a list of draws
abbrev pub batch_of : Handed → List Float → Batch
batch_of b draws =
    batch_on (simulation_in_use b.simulation) (observed_of b.observation)
    (observe_by b.observation) b.mirrored b.paths draws
