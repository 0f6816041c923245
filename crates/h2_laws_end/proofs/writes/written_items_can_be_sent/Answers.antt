-- By the lemmas on what every log has written.
use Rattle.h2_laws_end.proofs.SendableCalls.{written_sendable, written_sendable_by}
use Rattle.h2_laws_end.proofs.writes.written_items_can_be_sent.Goals as goal

pub returns-clause-bound : goal.returns-clause-bound
returns-clause-bound c = written_sendable

pub returns-clause-payloads : goal.returns-clause-payloads
returns-clause-payloads c = written_sendable_by
