use Rattle.std.proofs.Common.{◌∙◌, ap, inl, not, refl, sym}
use Rattle.h2_server.specs.Exchanges.{handling_of}
use Rattle.h2_server.proofs.FailingPhase.{up_failing}
use Rattle.h2_server.proofs.ConnectionSteps.{handles_then, own_handles, own_same}
use Rattle.h2_server.proofs.GoneOutput.{ready_gives}
use Rattle.h2_server.proofs.StepsMade.{then_handles}
use Rattle.h2_server.proofs.ConnectionSteps.{stopped_down}
use Rattle.h2_server.specs.Phases.{is_phase_down}
use Rattle.h2_server.proofs.TurnsMade.{turns_down, turns_ready}
use Rattle.h2_server.specs.Phases.{is_phase_failing}
use Rattle.h2_server.proofs.FailingCodes.{goes_on, not_failing, stopped_at, was_down}
use Rattle.h2_server.proofs.StepsMade.{any_handles}
use Rattle.h2_server.proofs.connection.Connection.send.Goals as goal

pub returns-then-is_down-clause-makes : goal.returns-then-is_down-clause-makes
returns-then-is_down-clause-makes g c = own_same _ _ refl refl refl (λ is. is)

pub returns-in-Err-clause-makes : goal.returns-in-Err-clause-makes
returns-in-Err-clause-makes g c =
    handles_then _ _ _ c.send_some.ensures.handles refl
    (up_failing _ _ (sym c.is_down.ensures ∙ c.if-is_down.false)) c.stop.ensures.makes

pub returns-then-is_err-clause-makes : goal.returns-then-is_err-clause-makes
returns-then-is_err-clause-makes g c =
    handles_then _ _ _ (then_handles c.send_some.ensures.handles
    (ready_gives _ _ (handling_of c.send_some.new.self) c.ready.result c.ready.ensures.answers))
    refl (up_failing _ _ (sym c.is_down.ensures ∙ c.if-is_down.false))
    c.refuse.ensures.makes

pub returns-else-is_err-clause-makes : goal.returns-else-is_err-clause-makes
returns-else-is_err-clause-makes g c =
    own_handles _ _ (then_handles c.send_some.ensures.handles
    (ready_gives _ _ (handling_of c.send_some.new.self) c.ready.result c.ready.ensures.answers))
    (inl refl) (up_failing _ _ (sym c.is_down.ensures ∙ c.if-is_down.false))

pub returns-then-is_down-clause-turns : goal.returns-then-is_down-clause-turns
returns-then-is_down-clause-turns g c =
    turns_down _ _ (sym c.is_down.ensures ∙ c.if-is_down.true)

pub returns-in-Err-clause-turns : goal.returns-in-Err-clause-turns
returns-in-Err-clause-turns g c =
    let (failed, so, phase) = c.stop.ensures.phase in
    turns_down _ _ (ap is_phase_down phase ∙ stopped_down c.in-Err.stop failed _)

pub returns-then-is_err-clause-turns : goal.returns-then-is_err-clause-turns
returns-then-is_err-clause-turns g c = turns_down _ _ (ap is_phase_down c.refuse.ensures.phase)

pub returns-else-is_err-clause-turns : goal.returns-else-is_err-clause-turns
returns-else-is_err-clause-turns g c =
    turns_ready c.args.self.now _ c.send_some.new.server.end c.in_default.ensures.handles
    (λ none. c.in_default.ensures.returned (ap not none)) c.ready.result
    (sym c.is_err.ensures.value ∙ c.if-is_err.false) c.ready.ensures.answers
    c.ready.ensures.returned refl

pub returns-then-is_down-clause-stopped : goal.returns-then-is_down-clause-stopped
returns-then-is_down-clause-stopped g c =
    was_down c.args.self.now _ (sym c.is_down.ensures ∙ c.if-is_down.true)

pub returns-in-Err-clause-stopped : goal.returns-in-Err-clause-stopped
returns-in-Err-clause-stopped g c =
    let mid = record c.args.self.now {
      server = c.send_some.new.server;
      exchanges = c.send_some.new.self;
    } in
    stopped_at c.args.self.now mid c.stop.new.self (any_handles c.send_some.ensures.handles)
    c.stop.ensures.code

pub returns-then-is_err-clause-stopped : goal.returns-then-is_err-clause-stopped
returns-then-is_err-clause-stopped g c =
    not_failing c.args.self.now c.refuse.new.self (ap is_phase_failing c.refuse.ensures.phase)

pub returns-else-is_err-clause-stopped : goal.returns-else-is_err-clause-stopped
returns-else-is_err-clause-stopped g c =
    goes_on c.args.self.now _ (sym c.is_down.ensures ∙ c.if-is_down.false)
