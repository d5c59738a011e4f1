-- `fill` meets its contract. Assumes nothing.
use mathlib.Core.Path.{ap, ◌∙◌}
use Prim.Native.Nat.{◌≤◌}
use native.Mathlib.Omega.{arith}
use lib.Ieee.{of_bits}
use borrow.Author.Rules.{rules}
use Rattle.model.specs.Tables.{Tables}
use Rattle.generator_rows.specs.State.{dimension}
use Rattle.generator.proofs.Storing.{generator_written}
use Rattle.generator.proofs.fill.Goals as goal

pub returns : goal.returns
unfolding of_bits
returns c =
    let args = c.args in
    let n = ap (λ (v : Tables). v.n) c.k.view_is in
    let dim = c.dimension_of-dim.ensures ∙ ap dimension n in
    let few : args.k.n ≤ 10 = omega (arith, n, c.k.invariant) in
    generator_written args.k args.p args.window c.variance_row.result few
    c.variance_row.ensures.row (search rules) c.store_means.ensures c.store_pairs.ensures
    (rw dim at c.store_row.ensures) (rw dim at c.store_row-2.ensures)
