-- What of the three it is.
use Rattle.std.proofs.Common.{◌≡◌, ◌∙◌, Bool, ap, true}
use Rattle.std.specs.Prelude.{◌&&◌, ◌||◌, length, nat_lt}
use Rattle.h2_conn.specs.Conn.{octets_queued}
use Rattle.h2_server.specs.Connections.{takes_now, wants_turn}
use Rattle.h2_server.proofs.Turned.{and_false, and_true, as_first, as_second, either_is}
use Rattle.h2_server.proofs.Turned.{neither_is}
use Rattle.h2_server.proofs.connection.Connection.has_to_do.Goals.{then-self, else-self, then-writes}
use Rattle.h2_server.proofs.connection.Connection.has_to_do.Goals.{else-writes+then-self-2}
use Rattle.h2_server.proofs.connection.Connection.has_to_do.Goals.{else-writes+else-self-2}
use Rattle.h2_server.proofs.connection.Connection.has_to_do.Goals as goal

pub returns-then-wants_read : goal.returns-then-wants_read
returns-then-wants_read g c = (
  true,
  λ sends. absurd (cc),
  λ values log is.
      let connection = c.args.self.now in
      let queued = connection.readiness.writes
      && nat_lt 0 (length (octets_queued connection.server.end.conn)) in
      let writes : c.if-self.writes ≡ queued = elim c.if-self.branch [
        | then-self w ↦
            and_true _ _ _ w.if-self.true (w.writes-is ∙ w.wants_write-writes.ensures)
        | else-self w ↦ and_false _ _ _ w.if-self.false (w.writes-is ∙ w.if-self.false)
      ] in
      let reads = connection.readiness.reads && takes_now connection log in
      let either : c.if-writes.value ≡ (c.if-self.writes || reads) = elim c.if-writes.branch [
        | then-writes w ↦ as_first _ _ _ w.value-is w.if-writes.true
        | else-writes+then-self-2 w ↦ as_second _ _ _
            (and_true _ _ _ w.if-self-2.true (w.value-is ∙ w.wants_read.ensures values log is))
            w.if-writes.false
        | else-writes+else-self-2 w ↦ as_second _ _ _
            (and_false _ _ _ w.if-self-2.false (w.value-is ∙ w.if-self-2.false)) w.if-writes.false
      ] in
      either_is queued reads (wants_turn connection log true) c.if-writes.value
      (either ∙ ap (λ (b : Bool). b || reads) writes) c.if-wants_read.true,
)

pub returns-else-wants_read : goal.returns-else-wants_read
returns-else-wants_read g c = (
  c.wants_turn.ensures.0,
  c.wants_turn.ensures.1,
  λ values log is.
      let connection = c.args.self.now in
      let queued = connection.readiness.writes
      && nat_lt 0 (length (octets_queued connection.server.end.conn)) in
      let writes : c.if-self.writes ≡ queued = elim c.if-self.branch [
        | then-self w ↦
            and_true _ _ _ w.if-self.true (w.writes-is ∙ w.wants_write-writes.ensures)
        | else-self w ↦ and_false _ _ _ w.if-self.false (w.writes-is ∙ w.if-self.false)
      ] in
      let reads = connection.readiness.reads && takes_now connection log in
      let either : c.if-writes.value ≡ (c.if-self.writes || reads) = elim c.if-writes.branch [
        | then-writes w ↦ as_first _ _ _ w.value-is w.if-writes.true
        | else-writes+then-self-2 w ↦ as_second _ _ _
            (and_true _ _ _ w.if-self-2.true (w.value-is ∙ w.wants_read.ensures values log is))
            w.if-writes.false
        | else-writes+else-self-2 w ↦ as_second _ _ _
            (and_false _ _ _ w.if-self-2.false (w.value-is ∙ w.if-self-2.false)) w.if-writes.false
      ] in
      c.wants_turn.ensures.2 values log is
      ∙ neither_is queued reads (wants_turn connection log c.wants_turn.ensures.0)
      c.if-writes.value (either ∙ ap (λ (b : Bool). b || reads) writes) c.if-wants_read.false,
)
