use Rattle.std.proofs.Common.{◌∙◌, [], ap, append-nil, inl, refl}
use Rattle.h2_server.specs.Connections.{input_kept}
use Rattle.h2_server.proofs.FailingPhase.{same_failing}
use Rattle.h2_server.proofs.ConnectionSteps.{stops_then, uses_then}
use Rattle.h2_server.proofs.TurnsMade.{turns_after, turns_down}
use Rattle.h2_server.specs.Phases.{is_phase_down}
use Rattle.h2_server.proofs.ConnectionSteps.{stopped_down}
use Rattle.std.proofs.Common.{Err}
use Rattle.h2_server.proofs.FailingCodes.{stopped_after, stopped_at}
use Rattle.h2_server.proofs.StepsMade.{any_handles, piece_handles}
use Rattle.h2_server.proofs.connection.Connection.turn.Goals as goal

pub returns-in-Ok-clause-makes : goal.returns-in-Ok-clause-makes
returns-in-Ok-clause-makes g c =
    let kept = input_kept c.args.self.now in
    let (used, handles, split) = c.in-Ok.ensures.takes in
    uses_then c.args.self.now c.take_waiting.new.self _ [] used
    (input_kept c.take_waiting.new.self) handles (append-nil kept ∙ split) (inl refl)
    (same_failing _ _ c.take_waiting.ensures.same c.take_waiting.ensures.phase)
    c.send.ensures.makes

pub returns-in-Err-clause-makes : goal.returns-in-Err-clause-makes
returns-in-Err-clause-makes g c =
    let kept = input_kept c.args.self.now in
    stops_then c.args.self.now c.take_waiting.new.self _ [] kept c.in-Err.stop
    (append-nil kept) c.in-Err.ensures.takes
    (same_failing _ _ c.take_waiting.ensures.same c.take_waiting.ensures.phase) c.stop.ensures.makes
    c.stop.ensures.phase

pub returns-in-Ok-clause-turns : goal.returns-in-Ok-clause-turns
returns-in-Ok-clause-turns g c =
    let (used, handles, split) = c.in-Ok.ensures.takes in
    turns_after c.args.self.now c.take_waiting.new.self _ used handles split c.send.ensures.turns

pub returns-in-Err-clause-turns : goal.returns-in-Err-clause-turns
returns-in-Err-clause-turns g c =
    let (failed, so, phase) = c.stop.ensures.phase in
    turns_down _ _ (ap is_phase_down phase ∙ stopped_down c.in-Err.stop failed _)

pub returns-in-Ok-clause-stopped : goal.returns-in-Ok-clause-stopped
returns-in-Ok-clause-stopped g c =
    let (used, handles, split) = c.in-Ok.ensures.takes in
    stopped_after c.args.self.now c.take_waiting.new.self c.send.new.self (any_handles handles)
    c.take_waiting.ensures.phase c.send.ensures.stopped

pub returns-in-Err-clause-stopped : goal.returns-in-Err-clause-stopped
returns-in-Err-clause-stopped g c =
    stopped_at c.args.self.now c.take_waiting.new.self c.stop.new.self
    (piece_handles (input_kept c.args.self.now) (Err c.in-Err.stop) c.in-Err.ensures.takes)
    c.stop.ensures.code
