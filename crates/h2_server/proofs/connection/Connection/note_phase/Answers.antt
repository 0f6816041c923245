use Rattle.std.proofs.Common.{refl, subst, sym}
use Rattle.h2_server.specs.declared.connection.Phase.{Phase}
use Rattle.h2_server.specs.Connections.{NotesPhaseFrom, has_moved}
use Rattle.h2_server.proofs.ConnectionSteps.{own_same}
use Rattle.h2_server.proofs.Changed.{notes_ending, notes_failing, own_watched}
use Rattle.h2_server.proofs.FailingCodes.{code_moved}
use Rattle.h2_server.proofs.connection.Connection.note_phase.Goals as goal

pub returns-in-Ending-clause-makes : goal.returns-in-Ending-clause-makes
returns-in-Ending-clause-makes g c =
    own_watched c.args.self.now c.restarted-since.new.self _ _ c.restarted-since.ensures.rest
    c.note_ending.ensures.makes

pub returns-in-Ending-clause-phase : goal.returns-in-Ending-clause-phase
returns-in-Ending-clause-phase g c =
    subst (λ (p : Phase). NotesPhaseFrom p c.args.self.now c.note_ending.new.self.phase)
    (sym c.in-Ending.is)
    (notes_ending c.args.self.now c.restarted-since.new.self (has_moved c.args.self.now) _ _ _ _
    c.restarted-since.ensures.rest c.restarted-since.ensures.since c.note_ending.ensures.phase)

pub returns-in-Failing-clause-makes : goal.returns-in-Failing-clause-makes
returns-in-Failing-clause-makes g c =
    let restarted = c.restarted-since-in-Failing in
    own_watched c.args.self.now restarted.new.self _ _ restarted.ensures.rest
    c.note_failing.ensures.makes

pub returns-in-Failing-clause-phase : goal.returns-in-Failing-clause-phase
returns-in-Failing-clause-phase g c =
    let restarted = c.restarted-since-in-Failing in
    subst (λ (p : Phase). NotesPhaseFrom p c.args.self.now c.note_failing.new.self.phase)
    (sym c.in-Failing.is)
    (notes_failing c.args.self.now restarted.new.self _ _ _ _ _ restarted.ensures.rest
    restarted.ensures.since c.note_failing.ensures.phase)

pub returns-in-Over-clause-makes : goal.returns-in-Over-clause-makes
returns-in-Over-clause-makes g c = own_same _ _ refl refl refl (λ is. is)

pub returns-in-Ending-clause-code : goal.returns-in-Ending-clause-code
returns-in-Ending-clause-code g c =
    λ up. code_moved c.args.self.now c.restarted-since.new.self c.note_ending.new.self _
    c.restarted-since.ensures.rest c.note_ending.ensures.code
