-- What came is used in order, kept, or dropped by one that is down.
use Rattle.std.proofs.Common.{◌∙◌, ◌++◌, List, ℕ, ap, drop, inr, refl, sym, take}
use Rattle.std.proofs.lemmas.List.{take_rest}
use Rattle.h2_server.specs.Connections.{input_kept}
use Rattle.h2_server.specs.Phases.{is_phase_down}
use Rattle.h2_server.proofs.FailingPhase.{up_failing}
use Rattle.h2_server.proofs.ConnectionSteps.{drops, kept_order, stops_then, uses_kept, uses_then}
use Rattle.h2_server.proofs.Turned.{kept_appended}
use Rattle.std.proofs.Common.{Err}
use Rattle.h2_server.specs.Phases.{is_phase_failing}
use Rattle.h2_server.proofs.FailingCodes.{goes_on, not_failing, stopped_at, was_down}
use Rattle.h2_server.proofs.StepsMade.{piece_handles}
use Rattle.h2_server.proofs.connection.Connection.take_input.Goals as goal

pub returns-then-is_down-clause-makes : goal.returns-then-is_down-clause-makes
returns-then-is_down-clause-makes g c =
    drops _ _ _ (sym c.is_down.ensures ∙ c.if-is_down.true) refl refl refl

pub returns-in-Err-clause-makes : goal.returns-in-Err-clause-makes
returns-in-Err-clause-makes g c =
    stops_then c.args.self.now c.take_first.new.self _ c.args.octets.now c.args.octets.now
    c.in-Err.stop (ap (λ (kept : List ℕ). kept ++ c.args.octets.now) c.in-Err.ensures.none)
    c.in-Err.ensures.piece
    (up_failing _ _ (ap is_phase_down c.take_first.ensures.phase
    ∙ sym c.is_down.ensures ∙ c.if-is_down.false)) c.stop.ensures.makes c.stop.ensures.phase

pub returns-then-is_err-clause-makes : goal.returns-then-is_err-clause-makes
returns-then-is_err-clause-makes g c =
    let octets = c.args.octets.now in
    uses_then c.args.self.now _ _ octets (take c.in-Ok.used octets)
    (input_kept c.take_first.new.self ++ drop c.in-Ok.used octets) c.in-Ok.ensures.piece
    c.in-Ok.ensures.kept (inr (ap is_phase_down c.refuse.ensures.phase))
    (up_failing _ _ (ap is_phase_down c.take_first.ensures.phase
    ∙ sym c.is_down.ensures ∙ c.if-is_down.false)) c.refuse.ensures.makes

pub returns-else-is_err-clause-makes : goal.returns-else-is_err-clause-makes
returns-else-is_err-clause-makes g c =
    let octets = c.args.octets.now in
    let rest = drop c.in-Ok.used octets in
    let mid = c.take_first.new.self in
    let done = c.is_err.ensures.negation in
    uses_kept c.args.self.now _ octets (take c.in-Ok.used octets) c.in-Ok.ensures.piece
    (kept_order (input_kept c.args.self.now) octets (take c.in-Ok.used octets) mid.used
    mid.kept.items _ rest c.take_first.ensures.place
    (kept_appended mid.kept.items _ rest _ (rw c.if-is_err.false at done)
    (rw (take_rest octets c.in-Ok.used) at c.extend_from_slice.ensures.items))
    c.in-Ok.ensures.kept)
    (up_failing _ _ (ap is_phase_down c.take_first.ensures.phase
    ∙ sym c.is_down.ensures ∙ c.if-is_down.false))

pub returns-then-is_down-clause-stopped : goal.returns-then-is_down-clause-stopped
returns-then-is_down-clause-stopped g c =
    was_down c.args.self.now _ (sym c.is_down.ensures ∙ c.if-is_down.true)

pub returns-in-Err-clause-stopped : goal.returns-in-Err-clause-stopped
returns-in-Err-clause-stopped g c =
    stopped_at c.args.self.now c.take_first.new.self c.stop.new.self
    (piece_handles c.args.octets.now (Err c.in-Err.stop) c.in-Err.ensures.piece)
    c.stop.ensures.code

pub returns-then-is_err-clause-stopped : goal.returns-then-is_err-clause-stopped
returns-then-is_err-clause-stopped g c =
    not_failing c.args.self.now c.refuse.new.self (ap is_phase_failing c.refuse.ensures.phase)

pub returns-else-is_err-clause-stopped : goal.returns-else-is_err-clause-stopped
returns-else-is_err-clause-stopped g c =
    goes_on c.args.self.now _ (ap is_phase_down c.take_first.ensures.phase
    ∙ sym c.is_down.ensures ∙ c.if-is_down.false)
