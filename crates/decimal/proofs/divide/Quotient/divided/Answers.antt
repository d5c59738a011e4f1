-- `decimal::divide::Quotient::divided` meets its contract. Assumes nothing.
use Rattle.std.proofs.Common.{Bool, not, ◌||◌, eqb, sym, ap}
use Rattle.decimal.proofs.Fives.{once}
use Rattle.decimal.proofs.divide.Quotient.divided.Goals as goal

pub returns-then-self : goal.returns-then-self
returns-then-self c =
    let lower = c.divide_word-lower in
    once c.args.self c.args.by lower.result.quotient lower.result.rest _ lower.ensures
    (rw c.if-self.true)

pub returns-else-self : goal.returns-else-self
returns-else-self c =
    let lower = c.divide_word-lower in
    once c.args.self c.args.by lower.result.quotient lower.result.rest _ lower.ensures
    (sym (ap (λ (s : Bool). s || not (eqb lower.result.rest 0)) c.if-self.false))
