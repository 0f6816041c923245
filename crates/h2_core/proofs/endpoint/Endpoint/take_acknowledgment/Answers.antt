-- By whether own SETTINGS await it.
use Rattle.h2_core.proofs.Names.{refl, values_of, end_of}
use Rattle.h2_core.proofs.OwnItems.{ack_ignored, ack_taken}
use Rattle.h2_core.proofs.endpoint.Endpoint.take_acknowledgment.Goals as goal

pub returns-in_default : goal.returns-in_default
returns-in_default c = λ pairs.
    ack_ignored (end_of c.args.self.now) pairs _ (rw c.in_default.is refl)

pub returns : goal.returns
returns c = λ pairs.
    let one = c.args.self.now in
    let values = values_of c.in-Some.config in
    let taken = ack_taken (end_of one) pairs one.list values (rw c.in-Some.is refl) in
    rw (
      c.set_limit.ensures,
      c.set_recv_initial.ensures,
      c.table_limit.ensures,
      c.initial_window.ensures,
      c.max_streams-self.ensures,
      c.max_frame-self.ensures,
    )
    taken
