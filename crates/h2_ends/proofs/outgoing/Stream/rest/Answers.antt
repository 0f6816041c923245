-- What is kept of the stream says whether a message was begun.
use Rattle.h2_ends.proofs.PartSends.{not_open_here, rest_here}
use Rattle.h2_ends.proofs.outgoing.Stream.rest.Goals as goal

pub returns-in-Open : goal.returns-in-Open
returns-in-Open c = λ values now end id is was.
    rest_here values now end id c.args.self.now c.in-Open.rest is was c.in-Open.is

pub returns-in_default : goal.returns-in_default
returns-in_default c = λ values now end id is was.
    not_open_here end id _ (λ rest goes. c.in_default.not-Open rest goes)
    (rw (← was) at (is.streams.streams id))
