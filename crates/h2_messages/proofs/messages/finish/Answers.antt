-- The line of the fault, and then that of the output.
use Rattle.std.proofs.KnownBytes.{Appends-trans}
use Rattle.h2_messages.proofs.messages.finish.Goals as goal

pub returns-clause-written : goal.returns-clause-written
returns-clause-written g c =
    let (octets, line) = c.in_ok-write_output.ensures.line in
    (octets, Appends-trans _ _ _ _ _ c.in_ok-status.ensures.line line)
