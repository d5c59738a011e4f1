-- `admission::params::try_new` meets its contract. Assumes nothing.
use mathlib.Core.Path.{sym, ◌∙◌}
use native.Mathlib.Omega.{arith}
use Rattle.decimal.specs.contracts.Decimal.{the_row}
use Rattle.model.specs.Parameters.{zero_decimal, start_of}
use Rattle.admission.proofs.Admitting.{Coefficients, params_prepared}
use Rattle.admission.proofs.Elements.{element_known}
use Rattle.admission.proofs.params.try_new.Goals.{After-read}
use Rattle.admission.proofs.params.try_new.Goals as goal

-- the coefficients of the Decimals given
held : (c : After-read) → Coefficients c.args.p
held c =
    record {
      a = omega arith;
      b = omega arith;
      c = omega arith;
      lambda = omega arith;
      eta = omega arith;
      spot = omega arith;
      factor = λ i h.
          let known = element_known the_row zero_decimal 10 c.args.p.factors _ c.well_formed.1.0.1.1.1.1.1.1.1.1.1.0 i h in
          omega arith;
    }

pub returns : goal.returns
unfolding start_of
returns c =
    rw (← c.k.view_is)
    (params_prepared _ c.args.p _ c.k.invariant (held c) (sym c.in_ok-ranges.ensures)
    (sym (rw (← c.k.view_is) at c.in_ok-scales.ensures)) c.params_of-params.ensures
    (rw (← c.k.view_is) at c.read.ensures
    ∙ rw (c.params_of-params.ensures, c.value-spot.ensures, c.factors_of-factors.ensures)))
