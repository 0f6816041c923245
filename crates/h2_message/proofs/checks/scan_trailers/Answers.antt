use Rattle.h2_message.proofs.Names.{trailer_fields, Request}
use Rattle.h2_message.proofs.checks.scan_trailers.Goals as goal

pub returns-in-None : goal.returns-in-None
unfolding trailer_fields
returns-in-None c = rw c.in-None.is (c.empty.ensures Request)

pub returns-in-Some : goal.returns-in-Some
unfolding trailer_fields
returns-in-Some c = rw (c.in-Some.is, ← c.deref.ensures.value) c.scan_fields.ensures
