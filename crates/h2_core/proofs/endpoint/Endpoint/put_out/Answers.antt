-- The vector has the capacity for all that is put out before anything is changed.
use Rattle.h2_core.proofs.Names.{◌≡◌, refl, ◌++◌, take, before_put_out_at, end_of}
use Rattle.h2_core.proofs.OwnOutput.{without_error, waiting_ready, given_out}
use Rattle.h2_core.proofs.endpoint.Endpoint.put_out.Goals as goal

pub returns-clause-ok : goal.returns-clause-ok
returns-clause-ok c =
    let e = end_of c.args.self.now in
    let ready = end_of c.return_before_output.new.self in
    let is : ready ≡ before_put_out_at e =
    rw c.reserve-else-is_err.ensures.waiting at c.return_before_output.ensures in
    let put = rw c.unwrap.ensures at c.put_out.ensures.ok in
    let octets : c.put_out.new.out.items
    ≡ c.args.out.now.items ++ take c.unwrap.result ready.output.waiting =
    rw (← c.reserve.ensures.items) put.1 in
    rw put.2
    (given_out e ready _ c.args.count c.unwrap.result _ _ is put.0 octets refl)

-- No memory is refused later, since the vector has the capacity for all that is queued by then.
pub unwrap-requires : goal.unwrap-requires
unwrap-requires c =
    let e = end_of c.args.self.now in
    let ready = end_of c.return_before_output.new.self in
    let is : ready ≡ before_put_out_at e =
    rw c.reserve-else-is_err.ensures.waiting at c.return_before_output.ensures in
    let room = without_error c.reserve.result c.if-is_err.ensures.value c.reserve.ensures.ok in
    let wait = waiting_ready e ready c.len.result _ is c.len.ensures c.update_room-update.ensures in
    c.put_out.ensures.room (rw wait (rw c.min-given.ensures at room))
