-- That the connection has failed is the one condition; otherwise it fails as the machine does.
use Rattle.h2_core.proofs.Names.{err_from_is_err_and, conditions, first_of, after_call}
use Rattle.h2_core.proofs.CallConditions.{refused}
use Rattle.h2_core.proofs.endpoint.Endpoint.fail_on_request.Goals as goal

pub returns-in_err-check_up-clause-err : goal.returns-in_err-check_up-clause-err
unfolding conditions first_of
returns-in_err-check_up-clause-err c =
    let p = err_from_is_err_and c.from_residual.result c.from_residual.ensures.1 in
    let closed = c.in_err-check_up.ensures.err in
    rw (p.1, p.2, closed.0) (refused _ _ _ (rw closed.1))

pub returns-clause-ok : goal.returns-clause-ok
unfolding conditions first_of after_call
returns-clause-ok c =
    record { free = rw c.in_ok-check_up.ensures.ok; after = c.fail.ensures }
