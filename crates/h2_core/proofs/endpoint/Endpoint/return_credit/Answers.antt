-- A WINDOW_UPDATE on stream 0 has 13 octets, which are then queued.
use Rattle.h2_core.proofs.Names.{arith, WindowUpdate, end_view, end_of}
use Rattle.h2_core.proofs.StepFrames.{update-written, length-update, one-item}
use Rattle.h2_core.proofs.endpoint.Endpoint.return_credit.Goals as goal

pub add_frame-requires-clause-writable : goal.add_frame-requires-clause-writable
add_frame-requires-clause-writable c =
    update-written 0 c.args.self.now.unreturned (omega arith) (omega arith)

pub add_frame-requires-clause-short : goal.add_frame-requires-clause-short
add_frame-requires-clause-short c = omega (arith, length-update 0 c.args.self.now.unreturned)

pub add_frame-requires-clause-room : goal.add_frame-requires-clause-room
add_frame-requires-clause-room c = omega (arith, length-update 0 c.args.self.now.unreturned)

pub returns-clause-after : goal.returns-clause-after
returns-clause-after c =
    let e = end_of c.args.self.now in
    let item = one-item (end_view e).max_payload (WindowUpdate 0 c.args.self.now.unreturned) in
    cc
