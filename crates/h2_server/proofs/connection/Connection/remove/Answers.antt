-- None are given out by one that is closed, nor where that was refused.
use Rattle.std.proofs.Common.{[], ◌∙◌, ap, inl, inr, refl, sym, take}
use Rattle.h2_conn.specs.Conn.{octets_queued}
use Rattle.h2_server.specs.Exchanges.{handling_of}
use Rattle.h2_server.specs.Phases.{is_phase_down, is_phase_over}
use Rattle.h2_server.proofs.FailingPhase.{call_failing}
use Rattle.h2_server.proofs.ConnectionSteps.{own_gives, own_same, own_then}
use Rattle.h2_server.proofs.GoneOutput.{gone_size, removed_gives, unremoved_gives}
use Rattle.h2_server.proofs.TurnsMade.{never_err, removed_up, wrote_none, wrote_refused, wrote_some}
use Rattle.h2_server.proofs.connection.Connection.remove.Goals as goal

pub returns-then-is_over-clause-makes : goal.returns-then-is_over-clause-makes
returns-then-is_over-clause-makes g c = (
  [],
  own_same _ _ refl refl refl (λ is. is),
  inr (refl, sym c.is_over.ensures ∙ c.if-is_over.true),
  refl,
)

pub returns-then-is_err-clause-makes : goal.returns-then-is_err-clause-makes
returns-then-is_err-clause-makes g c =
    let old = c.args.self.now in
    let mid = record old { server = c.consume.new.self } in (
      [],
      own_then old mid c.refuse.new.self
          (own_gives old mid (unremoved_gives old.server.end c.consume.new.self.end
          (handling_of old.exchanges) c.min-gone.result c.consume.result
          (sym c.is_err.ensures.value ∙ c.if-is_err.true) c.consume.ensures.answers) refl refl
          (call_failing _ _ _ _ c.consume.ensures.answers (λ is. is)))
          c.refuse.ensures.makes (λ is. ap is_phase_over c.refuse.ensures.phase)
          (λ is. ap is_phase_down c.refuse.ensures.phase),
      inr (refl, ap is_phase_over c.refuse.ensures.phase),
      refl,
    )

pub returns-clause-makes : goal.returns-clause-makes
returns-clause-makes g c =
    let old = c.args.self.now in
    let queued = rw c.conn.ensures at c.waiting.ensures.queued in (
      take c.args.count (octets_queued old.server.end.conn),
      own_gives old _ (removed_gives old.server.end c.consume.new.self.end
          (handling_of old.exchanges) c.args.count c.min-gone.result c.waiting.result
          c.consume.result (sym c.is_err.ensures.value ∙ c.if-is_err.false)
          c.consume.ensures.answers queued c.min-gone.ensures) refl refl
          (call_failing _ _ _ _ c.consume.ensures.answers (λ is. is)),
      inl refl,
      gone_size (octets_queued old.server.end.conn) c.args.count c.min-gone.result
          c.waiting.result queued c.min-gone.ensures,
    )

pub returns-then-is_over-clause-wrote : goal.returns-then-is_over-clause-wrote
returns-then-is_over-clause-wrote g c =
    wrote_none c.args.count c.args.self.now (sym c.is_over.ensures ∙ c.if-is_over.true)
    (own_same _ _ refl refl refl (λ is. is))

pub returns-then-is_err-clause-wrote : goal.returns-then-is_err-clause-wrote
returns-then-is_err-clause-wrote g c =
    let old = c.args.self.now in
    let mid = record old { server = c.consume.new.self } in
    wrote_refused c.args.count c.min-gone.result old c.refuse.new.self c.consume.result
    (sym c.is_over.ensures ∙ c.if-is_over.false) (sym c.is_err.ensures.value ∙ c.if-is_err.true)
    c.consume.ensures.room
    (own_then old mid c.refuse.new.self
    (own_gives old mid (unremoved_gives old.server.end c.consume.new.self.end
    (handling_of old.exchanges) c.min-gone.result c.consume.result
    (sym c.is_err.ensures.value ∙ c.if-is_err.true) c.consume.ensures.answers) refl refl
    (call_failing _ _ _ _ c.consume.ensures.answers (λ is. is)))
    c.refuse.ensures.makes (λ is. ap is_phase_over c.refuse.ensures.phase)
    (λ is. ap is_phase_down c.refuse.ensures.phase))

pub returns-clause-wrote : goal.returns-clause-wrote
returns-clause-wrote g c =
    let old = c.args.self.now in
    let queued = rw c.conn.ensures at c.waiting.ensures.queued in
    wrote_some c.args.count c.min-gone.result c.waiting.result old _ c.consume.result
    (sym c.is_over.ensures ∙ c.if-is_over.false) (sym c.is_err.ensures.value ∙ c.if-is_err.false)
    c.consume.ensures.answers queued c.min-gone.ensures
    (own_gives old _ (removed_gives old.server.end c.consume.new.self.end
    (handling_of old.exchanges) c.args.count c.min-gone.result c.waiting.result
    c.consume.result (sym c.is_err.ensures.value ∙ c.if-is_err.false)
    c.consume.ensures.answers queued c.min-gone.ensures) refl refl
    (call_failing _ _ _ _ c.consume.ensures.answers (λ is. is)))

pub returns-then-is_err-clause-stays : goal.returns-then-is_err-clause-stays
returns-then-is_err-clause-stays g c (values, log, is, ready) =
    never_err c.consume.result (sym c.is_err.ensures.value ∙ c.if-is_err.true)
    (c.consume.ensures.room values log is ready)

pub returns-clause-up : goal.returns-clause-up
returns-clause-up g c =
    removed_up c.args.count c.min-gone.result c.waiting.result c.args.self.now
    (record c.args.self.now { server = c.consume.new.self }) c.consume.result
    (sym c.is_err.ensures.value ∙ c.if-is_err.false) c.consume.ensures.answers
    (rw c.conn.ensures at c.waiting.ensures.queued) c.min-gone.ensures refl refl
