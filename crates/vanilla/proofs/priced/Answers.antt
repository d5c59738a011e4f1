-- `priced` meets its contract: the questions in turn, and the price. Assumes nothing.
use mathlib.Core.Path.{sym}
use Rattle.std.proofs.lemmas.Result.{err_from_is_err_and}
use Rattle.admission.specs.Inner.Given.{given_of}
use Rattle.vanilla.specs.Call.{vanilla_inputs}
use Rattle.vanilla.proofs.Asked.{model_refused, terms_refused, is_ready, priced_through}
use Rattle.vanilla.proofs.priced.Goals as goal

pub returns-in_err-simulation : goal.returns-in_err-simulation
returns-in_err-simulation c =
    let p = err_from_is_err_and c.from_residual.result c.from_residual.ensures.1 in
    rw (p.1, p.2) (model_refused _ _ _ c.in_err-simulation.ensures)

pub returns-in_err-terms_questions : goal.returns-in_err-terms_questions
returns-in_err-terms_questions c =
    let r = c.from_residual-in_err-terms_questions in
    let p = err_from_is_err_and r.result r.ensures.1 in
    rw (p.1, p.2)
    (terms_refused _ _ _ c.in_ok-simulation.ensures _ (sym c.in_err-terms_questions.ensures))

pub price-requires : goal.price-requires
price-requires c =
    let inputs = vanilla_inputs (given_of c.args.given.now) c.args.order c.args.draws.now in
    is_ready inputs c.args.observations.now _ c.in_ok-simulation.ensures

pub returns : goal.returns
returns c =
    priced_through _ _ _ c.in_ok-simulation.ensures (sym c.in_ok-terms_questions.ensures)
    c.terms_payoff.ensures c.price.ensures
