-- The connection is new.
use Rattle.h2_flow.specs.ConfigValues.{values_of}
use Rattle.h2_get.proofs.begin.request_all.Goals as goal

pub returns-in-Ok-request_each-clause-ok : goal.returns-in-Ok-request_each-clause-ok
returns-in-Ok-request_each-clause-ok c =
    c.in-Ok-request_each.ensures.ok (values_of c.args.config) c.in-Ok.ensures.ok

pub returns-in-Err-clause-err : goal.returns-in-Err-clause-err
returns-in-Err-clause-err c =
    c.in-Err.ensures.err (values_of c.args.config) c.in-Ok.ensures.ok
