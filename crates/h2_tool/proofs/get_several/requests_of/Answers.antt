-- By the lemmas on the request of one location more.
use Rattle.std.proofs.Common.{◌≡◌, arith, get_or, rules}
use Rattle.std.proofs.lemmas.Result.{err_from_is_err_and}
use Rattle.h2_args.specs.Words.{asked_by}
use Rattle.h2_tool.proofs.SeveralLemmas.{first_refused, later_refused, requests_more}
use Rattle.h2_tool.proofs.get_several.requests_of.Goals as goal

pub returns-in_err-add_request-clause-err : goal.returns-in_err-add_request-clause-err
returns-in_err-add_request-clause-err c =
    let answer = err_from_is_err_and c.from_residual.result c.from_residual.ensures.1 in
    rw (answer.1, answer.2) (first_refused (asked_by c.args.options.now) c.args.body.now
    c.args.first.now c.args.others.now _ c.in_err-add_request.ensures.err)

pub returns-in_err-add_request-2-clause-err : goal.returns-in_err-add_request-2-clause-err
returns-in_err-add_request-2-clause-err c =
    let answer = err_from_is_err_and c.from_residual-in_err-add_request-2.result
    c.from_residual-in_err-add_request-2.ensures.1 in
    let at : c.location-item.result
    ≡ get_or c.args.others.now c.loop-location.location-index c.location-item.result =
    search rules in
    rw (answer.1, answer.2) (later_refused (asked_by c.args.options.now) c.args.body.now
    c.args.first.now c.args.others.now c.loop-location.location-index _ (omega arith)
    c.location-item.result at _ c.in_err-add_request-2.ensures.err)

pub loop-location-preserved : goal.loop-location-preserved
loop-location-preserved c =
    let at : c.location-item.result
    ≡ get_or c.args.others.now c.loop-location.location-index c.location-item.result =
    search rules in
    requests_more (asked_by c.args.options.now) c.args.body.now c.args.first.now c.args.others.now
    c.loop-location.location-index _ c.location-item.result (omega arith) at _ _
    c.loop-location.invariant
    c.in_ok-add_request-2.ensures.ok c.in_ok-add_request-2.ensures.asked
