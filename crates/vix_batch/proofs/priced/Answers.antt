-- `priced` meets its contract: the questions in turn, and the price. Assumes nothing.
use mathlib.Core.Path.{sym}
use Rattle.std.proofs.lemmas.Result.{err_from_is_err_and}
use Rattle.admission.specs.Inner.Given.{given_of}
use Rattle.vix_batch.specs.Call.{vix_batch_inputs}
use Rattle.vix_batch.proofs.Asked.{model_refused, form_refused, payoff_refused}
use Rattle.vix_batch.proofs.Asked.{is_ready, priced_through}
use Rattle.vix_batch.proofs.priced.Goals as goal

pub returns-in_err-simulation : goal.returns-in_err-simulation
returns-in_err-simulation c =
    let p = err_from_is_err_and c.from_residual.result c.from_residual.ensures.1 in
    rw (p.1, p.2) (model_refused _ _ _ _ c.in_err-simulation.ensures)

pub returns-in_err-form : goal.returns-in_err-form
returns-in_err-form c =
    let r = c.from_residual-in_err-form in
    let p = err_from_is_err_and r.result r.ensures.1 in
    rw (p.1, p.2) (form_refused _ _ _ _ c.in_ok-simulation.ensures _ c.in_err-form.ensures)

pub returns-in_err-payoff_questions : goal.returns-in_err-payoff_questions
returns-in_err-payoff_questions c =
    let r = c.from_residual-in_err-payoff_questions in
    let p = err_from_is_err_and r.result r.ensures.1 in
    rw (p.1, p.2)
    (payoff_refused _ _ _ _ c.in_ok-simulation.ensures _ c.in_ok-form.ensures _
    (sym c.in_err-payoff_questions.ensures))

pub price-requires : goal.price-requires
price-requires c =
    let inputs = vix_batch_inputs (given_of c.args.given.now) c.args.order c.args.draws.now in
    is_ready inputs c.args.workspace.now c.args.observations.now _ c.in_ok-simulation.ensures _
    c.in_ok-form.ensures

pub returns : goal.returns
returns c =
    priced_through _ _ _ _ c.in_ok-simulation.ensures _ c.in_ok-form.ensures
    (sym c.in_ok-payoff_questions.ensures) c.payoff_of.ensures c.price.ensures
