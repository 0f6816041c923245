-- By what the server hears.
use Rattle.h2_engines.proofs.ServerMachine.{server_hears}
use Rattle.h2_engines.proofs.responder.ResponderMachine.take.Goals as goal

pub returns-clause-hears : goal.returns-clause-hears
returns-clause-hears c =
    server_hears c.args.self.now c.hear.new.self c.args.piece.now c.hear.result
    c.hear.ensures.answered c.hear.ensures.hears
