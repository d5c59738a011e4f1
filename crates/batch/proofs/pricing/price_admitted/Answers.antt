-- `pricing::price_admitted` meets its contract. Assumes nothing.
use Rattle.std.proofs.lemmas.Result.{err_from_is_err_and}
use Rattle.batch.proofs.Claim.{run_refused, run_priced}
use Rattle.batch.proofs.pricing.price_admitted.Goals as goal

pub returns-in_err-walked : goal.returns-in_err-walked
returns-in_err-walked c =
    let p = err_from_is_err_and c.from_residual.result c.from_residual.ensures.1 in
    rw (p.1, p.2)
    (run_refused c.args.batch.now c.args.draws.now c.args.payoff c.requires.laid c.requires.admitted _
    c.requires.rows _ c.in_err-walked.ensures)

pub returns : goal.returns
returns c =
    run_priced c.args.batch.now c.args.draws.now c.args.payoff c.requires.laid c.requires.admitted _
    c.requires.rows _ c.in_ok-walked.ensures c.priced_from.ensures
