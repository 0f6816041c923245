use Rattle.std.proofs.Common.{refl}
use Rattle.h2_server.proofs.ConnectionSteps.{own_same}
use Rattle.h2_server.proofs.Changed.{own_watched}
use Rattle.h2_server.proofs.FailingCodes.{none_failed, notes_sent, sent_watched}
use Rattle.h2_server.proofs.connection.Connection.note_open.Goals as goal

pub returns-in-Some-clause-makes : goal.returns-in-Some-clause-makes
returns-in-Some-clause-makes g c =
    own_watched c.args.self.now _ _ _ refl c.fail.ensures.makes

pub returns-else-self-clause-makes : goal.returns-else-self-clause-makes
returns-else-self-clause-makes g c = own_same _ _ refl refl refl (λ is. is)

pub returns-then-is_sent-clause-makes : goal.returns-then-is_sent-clause-makes
returns-then-is_sent-clause-makes g c =
    own_watched c.args.self.now _ _ _ refl c.finish.ensures.makes

pub returns-in-Some-flood-clause-makes : goal.returns-in-Some-flood-clause-makes
returns-in-Some-flood-clause-makes g c =
    own_watched c.args.self.now _ _ _ refl c.fail-in-Some-flood.ensures.makes

pub returns-then-is_sent-clause-phase : goal.returns-then-is_sent-clause-phase
returns-then-is_sent-clause-phase g c =
    λ was. notes_sent c.args.self.now c.finish.new.self.phase c.counts.result c.flood.result was
    (none_failed c.args.self.now c.conn.result.now c.failed.result c.failed.ensures c.conn.ensures
    (search)) c.counts.ensures (rw c.note.ensures at c.flood.ensures) (search)
    c.finish.ensures.phase c.if-self.true
    (sent_watched c.args.self.now c.note.new.self (c.if-is_sent.ensures refl))
