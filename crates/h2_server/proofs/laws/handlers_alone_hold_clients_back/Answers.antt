-- By the laws on what is owed and both windows.
use Rattle.h2_server.proofs.CreditReturned.{connection_held, stream_held}
use Rattle.h2_server.proofs.laws.handlers_alone_hold_clients_back.Goals as goal

pub returns : goal.returns
returns c = record { stream = stream_held; connection = connection_held }
