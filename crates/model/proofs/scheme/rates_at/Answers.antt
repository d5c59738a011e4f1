-- `model::scheme::rates_at` meets its contract. Assumes nothing.
use native.Mathlib.Omega.{arith}
use Rattle.model.proofs.Laws.{rates_past}
use Rattle.model.proofs.scheme.rates_at.Goals as goal

pub returns : goal.returns
unfolding lib.Ieee.div lib.Ieee.of_bits
returns c =
    let a = c.args in
    rates_past a.k.now _ a.sched.now.dt a.sched.now.sqrt_dt a.segment (omega arith) (omega arith) c.rates_of-2.ensures
