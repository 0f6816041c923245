-- Whatever ends it, the response was printed so.
use Rattle.h2_get.proofs.streaming.stream_with_hint.Goals as goal

pub returns-in-Ok : goal.returns-in-Ok
returns-in-Ok g c = record { streams = c.in-Ok.ensures; why = tt }

pub returns-in-Err-Link-clause-streams : goal.returns-in-Err-Link-clause-streams
returns-in-Err-Link-clause-streams g c =
    rw (c.of_link.ensures.error, c.end_fetch.ensures.error)
    (rw c.in-Err-Link.field-0-is at c.in-Err-Link.ensures)

pub returns-in-Err-clause-streams : goal.returns-in-Err-clause-streams
returns-in-Err-clause-streams g c = rw c.of_error.ensures.error c.in-Err.ensures
