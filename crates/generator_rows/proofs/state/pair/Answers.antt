-- `state::pair` meets its contract. Assumes nothing.
use Prim.Native.Nat.{◌≤◌}
use native.Mathlib.Omega.{arith}
use Rattle.generator_rows.proofs.Places.{pair_up, pair_down, pairs_few}
use Rattle.generator_rows.proofs.state.pair.Goals.{After-pairs_before, After-pairs_before-else-i-j}
use Rattle.generator_rows.proofs.state.pair.Goals as goal

-- how many pairs stand before the row
few : (c : After-pairs_before) → c.pairs_before.result ≤ 105
few c = rw c.pairs_before.ensures (pairs_few c.requires.0 (omega arith))

few_2 : (c : After-pairs_before-else-i-j) → c.pairs_before-else-i-j.result ≤ 105
few_2 c = rw c.pairs_before-else-i-j.ensures (pairs_few c.requires.0 (omega arith))

pub overflow_add-result : goal.overflow_add-result
overflow_add-result c =
    omega (arith, few c)

pub overflow_add-result-then-i-j : goal.overflow_add-result-then-i-j
overflow_add-result-then-i-j c =
    omega (arith, few c)

pub overflow_add-result-else-i-j : goal.overflow_add-result-else-i-j
overflow_add-result-else-i-j c =
    omega (arith, few_2 c)

pub overflow_add-result-else-i-j-2 : goal.overflow_add-result-else-i-j-2
overflow_add-result-else-i-j-2 c =
    omega (arith, few_2 c)

pub returns-then-i-j : goal.returns-then-i-j
returns-then-i-j c =
    omega (arith, c.pairs_before.ensures, pair_up c.args.n c.if-i-j.true)

pub returns-else-i-j : goal.returns-else-i-j
returns-else-i-j c =
    let down : c.args.j ≤ c.args.i = omega arith in
    omega (arith, c.pairs_before-else-i-j.ensures, pair_down c.args.n down)
