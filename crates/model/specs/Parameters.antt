-- Parameters: six Decimals and n initial factors, and the state that a walk starts from.
-- Definitions only.
use Rattle.std.specs.Prelude.{false, List, ℕ, get_or, Float}
use Rattle.numeric.specs.Table.{tabulate}
use Rattle.decimal.specs.declared.Decimal.{Decimal}
use Rattle.decimal.specs.Decimal.{value}
use Rattle.model.specs.declared.Kernel.{Kernel}
use Rattle.model.specs.declared.Model.{Model}
use Rattle.model.specs.declared.Params.{Params}
use Rattle.model.specs.declared.State.{State}
use Rattle.model.specs.Step.{read}

-- Rule 2.4: what stands for a Decimal past the end of a list, so that definitions are total
abbrev pub zero_decimal : Decimal
zero_decimal = record { low = 0; high = 0; scale = 0; negative = false }

-- Rule 5.4: the parameters as converted
abbrev pub params_of : Model → Params
params_of p =
    record {
      a = value p.a;
      b = value p.b;
      c = value p.c;
      lambda = value p.lambda;
      eta = value p.eta;
    }

-- Rule 5.4: the first n initial factors as converted
unfoldable pub factors_of : ℕ → List Decimal → List Float
unfolding tabulate
factors_of n factors = tabulate n (λ i. value (get_or factors i zero_decimal))

-- Rule 5.8: the state with the spot and the initial factors, as converted; its lowest spot is its
-- spot
unfoldable pub start_of : Kernel → Model → State
unfolding read factors_of
start_of k p =
    let spot = value p.spot in
    read k (params_of p) spot spot (factors_of k.n p.factors)
