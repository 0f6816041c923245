-- By the lemma on a request.
use Rattle.h2_engines.proofs.Names.{message_value, refl}
use Rattle.h2_fetch.proofs.ConnectionRequests.{makes_request}
use Rattle.h2_fetch.proofs.connection.ClientConnection.request.Goals as goal

pub returns-clause-requests : goal.returns-clause-requests
returns-clause-requests c =
    makes_request (message_value c.args.message) c.request.result c.args.self.now _
    c.request.ensures refl refl
