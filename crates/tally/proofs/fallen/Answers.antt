-- `tally::fallen` meets its contract. Assumes nothing.
use mathlib.Core.Path.{◌≡◌, ◌∙◌}
use borrow.Author.Rules.{rules}
use lib.Ieee.{of_bits, le}
use Rattle.std.specs.Prelude.{count_by}
use Rattle.numeric.specs.Double.{plus_zero}
use Rattle.tally.proofs.Tallying.{fallen_counted}
use Rattle.tally.proofs.fallen.Goals as goal

pub returns : goal.returns
unfolding of_bits
returns c =
    let lowest = c.args.lowest.now in
    let counted : c.count.result ≡ count_by (λ x. le x plus_zero) lowest = search rules in
    counted ∙ fallen_counted lowest
