-- `numeric::is_root` meets its contract. Assumes nothing.
use Rattle.std.proofs.Common.{sym, ◌∙◌, arith}
use Rattle.numeric.proofs.Roots.{guessed, root_of_number}
use Rattle.numeric.proofs.is_root.Goals as goal

pub returns : goal.returns
returns c =
    λ test.
    let bits = c.bits_of-bits in
    let digits = c.digits_of in
    let guess = c.bits_of-guess in
    guessed c.args.g guess.result c.digits_of-2.result digits.result _ c.well_formed.1.0.1
    guess.ensures c.digits_of-2.ensures (record { least = omega arith; most = omega arith })
    (omega arith) (omega arith) c.if-guess-e.false (sym c.is_nearest.ensures ∙ test)
    ∙ root_of_number c.args.x bits.result digits.result c.well_formed.0.1 bits.ensures
    digits.ensures (omega arith) (omega arith)
