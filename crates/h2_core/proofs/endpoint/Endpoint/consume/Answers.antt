-- What is consumed is taken away once what is unreturned was returned.
use Rattle.h2_core.proofs.Names.{◌≡◌, refl, before_put_out_at, end_of}
use Rattle.h2_core.proofs.OwnOutput.{consumed}
use Rattle.h2_core.proofs.endpoint.Endpoint.consume.Goals as goal

pub returns-clause-ok : goal.returns-clause-ok
returns-clause-ok c =
    let e = end_of c.args.self.now in
    let ready = end_of c.return_before_output.new.self in
    let is : ready ≡ before_put_out_at e =
    rw c.reserve.ensures.waiting at c.return_before_output.ensures in
    rw c.consume.ensures.waiting
    (consumed e ready _ c.args.count c.consume.result is c.consume.ensures.given refl)
