-- By how its end was written out.
use Rattle.h2_engines.proofs.Names.{Serving}
use Rattle.h2_engines.proofs.MachineWrites.{waiting_written}
use Rattle.h2_engines.proofs.responder.ResponderMachine.write_all.Goals as goal

pub returns-clause-writes : goal.returns-clause-writes
returns-clause-writes g c =
    let self = c.args.self.now in
    waiting_written _ _ self.server.end c.write_out.new.end.end
    (Serving self.requests self.answered) c.write_out.result c.write_out.ensures.writes
