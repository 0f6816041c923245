use Rattle.h2_message.proofs.Names.{length_after}
use Rattle.h2_message.proofs.parts.BodyLength.after.Goals as goal

pub returns-in-None : goal.returns-in-None
unfolding length_after
returns-in-None c = rw c.in-None.is

pub returns-in-Some : goal.returns-in-Some
unfolding length_after
returns-in-Some c = rw (c.in-Some.is, c.saturating_sub.ensures)
