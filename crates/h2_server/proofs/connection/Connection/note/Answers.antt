use Rattle.h2_server.proofs.ConnectionSteps.{own_counted}
use Rattle.h2_server.proofs.FailingCodes.{code_counted, up_counted}
use Rattle.h2_server.proofs.connection.Connection.note.Goals as goal

pub returns-clause-makes : goal.returns-clause-makes
returns-clause-makes g c =
    own_counted c.args.self.now c.note_phase.new.self c.count.new.self c.count.ensures.rest
    c.note_phase.ensures.makes

pub returns-clause-code : goal.returns-clause-code
returns-clause-code g c =
    code_counted c.args.self.now c.note_phase.new.self c.count.new.self c.count.ensures.rest
    c.note_phase.ensures.code

pub returns-clause-server_up : goal.returns-clause-server_up
returns-clause-server_up g c =
    up_counted c.note_phase.new.self c.count.new.self c.count.ensures.rest
    c.note_phase.ensures.server_up
