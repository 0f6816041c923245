-- The line of the status is printed, and then the body.
use Rattle.h2_net.proofs.Printing.{printed, always_good}
use Rattle.h2_net.proofs.get.write_response.Goals as goal

pub returns : goal.returns
returns g c =
    let line = rw c.status_value.ensures at c.in_ok-write_status.ensures in
    let status = rw c.deref.ensures.value at line in
    let body = rw c.deref-2.ensures.value at c.in_ok-write_all.ensures.bytes in
    always_good c.flush.result _
    (printed _ _ _ _ c.args.fetched.now status body c.flush.ensures.bytes)
