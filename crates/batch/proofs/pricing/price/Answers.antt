-- `pricing::price` meets its contract. Assumes nothing.
use mathlib.Core.Path.{refl, sym}
use Rattle.std.proofs.lemmas.Result.{err_from_is_err_and}
use Rattle.batch.proofs.Sizes.{prepared}
use Rattle.batch.proofs.Asked.{refused_answered, priced_answered}
use Rattle.batch.proofs.pricing.price.Goals as goal

pub returns-in_err-batch_questions : goal.returns-in_err-batch_questions
returns-in_err-batch_questions c =
    let p = err_from_is_err_and c.from_residual.result c.from_residual.ensures.1 in
    rw (p.1, p.2) (refused_answered _ _ _ _ _ (sym c.in_err-batch_questions.ensures) refl)

pub price_admitted-requires : goal.price_admitted-requires
price_admitted-requires c =
    prepared c.args.batch.now c.args.draws.now _ c.requires (sym c.in_ok-batch_questions.ensures)

pub returns : goal.returns
returns c = priced_answered (sym c.in_ok-batch_questions.ensures) c.price_admitted.ensures
