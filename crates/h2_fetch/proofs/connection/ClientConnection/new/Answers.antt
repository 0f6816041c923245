-- By the lemma on a new client.
use Rattle.h2_engines.proofs.Names.{refl}
use Rattle.h2_flow.specs.ConfigValues.{values_of}
use Rattle.h2_fetch.proofs.ConnectionRequests.{begins_connection}
use Rattle.h2_fetch.proofs.connection.ClientConnection.new.Goals as goal

pub returns-clause-ok : goal.returns-clause-ok
returns-clause-ok c =
    begins_connection (values_of c.args.config) _ c.args.config.in_range c.in-Ok.ensures.ok
    c.new-2.ensures.empty refl
