-- What is queued is what the log has written and not put out.
use Rattle.h2_conn.proofs.conn.Conn.waiting_from.Goals as goal

pub returns-clause-lends : goal.returns-clause-lends
returns-clause-lends c values log parts = (
  rw (← parts.machine.output.waiting) c.waiting_from.ensures.part,
  rw (← parts.machine.output.waiting) c.waiting_from.ensures.some,
)
