-- Whatever ends it, the response was gathered so.
use Rattle.h2_get.proofs.gathering.gather_with_hint.Goals as goal

pub returns-in-Err-clause-gathers : goal.returns-in-Err-clause-gathers
returns-in-Err-clause-gathers g c = rw c.end_fetch.ensures.error (_, _, c.in-Err.ensures.gathers)
