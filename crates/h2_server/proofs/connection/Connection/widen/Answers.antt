-- The call was one of the server, and then only what is counted has changed.
use Rattle.std.proofs.Common.{refl}
use Rattle.h2_server.proofs.Changed.{widened}
use Rattle.h2_server.proofs.connection.Connection.widen.Goals as goal

pub returns-clause-widens : goal.returns-clause-widens
returns-clause-widens g c =
    widened c.args.self.now _ c.count.new.self c.args.count
    c.widen-widened.result _ c.widen-widened.ensures c.is_ok.ensures.value refl
    c.count.ensures.rest
