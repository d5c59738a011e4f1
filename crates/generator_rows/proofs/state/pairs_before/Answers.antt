-- `state::pairs_before` meets its contract. Assumes nothing.
use native.Mathlib.Omega.{arith}
use Rattle.generator_rows.proofs.Places.{twice_pairs, product_small}
use Rattle.generator_rows.proofs.state.pairs_before.Goals as goal

pub overflow_mul-result-2 : goal.overflow_mul-result-2
overflow_mul-result-2 c =
    omega (arith, product_small c.requires.0 c.requires.1)

pub returns : goal.returns
returns c =
    omega (arith, twice_pairs c.args.n c.args.i c.requires.1)
