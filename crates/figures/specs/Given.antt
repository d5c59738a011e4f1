-- Rule 19.1: the inputs of the figures: n = 1, weight 1, discount 4, a = 1, b = 0, c = 4,
-- lambda = eta = 1, spot 100, factor 0, dt 0.25. Definitions only.
use Rattle.std.specs.Prelude.{ℕ, ◌/◌, ◌%◌, ◌^◌, Bool, false, List, [], ◌∷◌, from_bits, Float}
use Rattle.std.specs.Float.{binary64}
use Rattle.decimal.specs.declared.Decimal.{Decimal}
use Rattle.model.specs.declared.Kernel.{Kernel}
use Rattle.model.specs.declared.Model.{Model}
use Rattle.model.specs.declared.Schedule.{Schedule}
use Rattle.model.specs.Kernel.{kernel_of}
use Rattle.model.specs.Simulation.{Given, given}
use Rattle.estimates.specs.declared.Style.TheVariants.{Call}
use Rattle.vanilla.specs.declared.Terms.TheVariants.{Vanilla}
use Rattle.vanilla.specs.Call.{VanillaInputs, vanilla_inputs}

-- the double of these bits
abbrev pub bits : ℕ → Float
bits pattern = from_bits binary64 pattern

-- coefficient / 10 ^ scale
abbrev pub decimal : ℕ → ℕ → Decimal
decimal coefficient scale =
    record {
      low = coefficient % 2 ^ 64;
      high = coefficient / 2 ^ 64;
      scale = scale;
      negative = false;
    }

abbrev pub weights : List Float
weights = bits 0x3FF0000000000000 ∷ []

abbrev pub discounts : List Float
discounts = bits 0x4010000000000000 ∷ []

abbrev pub kernel : Kernel
kernel = kernel_of weights discounts

-- the parameters, with this a
abbrev pub with_a : Decimal → Model
with_a a =
    record {
      a = a;
      b = decimal 0 0;
      c = decimal 4 0;
      lambda = decimal 1 0;
      eta = decimal 1 0;
      spot = decimal 100 0;
      factor_count = 1;
      factors = decimal 0 0 ∷ [];
    }

abbrev pub model : Model
model = with_a (decimal 1 0)

-- with a = 0
abbrev pub calm : Model
calm = with_a (decimal 0 0)

-- so many steps of 0.25 years
abbrev pub steps : ℕ → Schedule
steps count = record { count = 1; segments = record { dt = decimal 25 2; steps = count } ∷ [] }

abbrev pub one_step : Schedule
one_step = steps 1

abbrev pub given_of : Model → Schedule → Given
given_of model schedule = given weights discounts model schedule

-- a call at 100
abbrev pub call_at100 : Schedule → Bool → ℕ → List Float → VanillaInputs
call_at100 schedule mirrored paths draws =
    vanilla_inputs (given_of model schedule)
    (record { terms = Vanilla Call (decimal 100 0); mirrored = mirrored; paths = paths })
    draws
