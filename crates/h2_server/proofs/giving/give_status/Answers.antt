use Rattle.std.proofs.Common.{inr}
use Rattle.h2_server.proofs.StatusAlone.{status_value}
use Rattle.h2_server.proofs.giving.give_status.Goals as goal

pub returns : goal.returns
returns c = λ to_head refused values end is.
    let (after, gives, there) =
    rw (status_value c.in_ok-message.message c.args.status c.in_ok-message.ensures)
    at (c.respond.ensures values end is) in
    (after, inr gives, there)
