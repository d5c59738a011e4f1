-- `numeric::root::scaled` meets its contract: where the guess is returned, it has the digits and
-- the exponent of the root. Assumes nothing.
use Rattle.std.proofs.Common.{sym, ◌∙◌, arith}
use Rattle.numeric.proofs.Roots.{guessed}
use Rattle.numeric.proofs.root.scaled.Goals as goal

pub returns-then-bits-k : goal.returns-then-bits-k
returns-then-bits-k c =
    guessed c.args.guess c.bits_of-bits.result c.digits_of-s.result c.args.digits c.args.e c.well_formed.1.1.0.1
    c.bits_of-bits.ensures c.digits_of-s.ensures c.requires.digits c.requires.le_e.0 c.requires.le_e.1
    (omega arith) (sym c.is_nearest.ensures ∙ c.if-not-is_nearest.false)
