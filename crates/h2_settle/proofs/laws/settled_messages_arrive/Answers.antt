-- By rounds that have led to quiet ends.
use Rattle.std.proofs.Common.{refl}
use Rattle.h2_laws_quiet.proofs.Arrivals.{client_has_arrived, server_has_arrived}
use Rattle.h2_settle.proofs.SettledQuiet.{settled_quiet}
use Rattle.h2_settle.proofs.laws.settled_messages_arrive.Goals as goal

pub returns-clause-at_client : goal.returns-clause-at_client
returns-clause-at_client c client_values server_values before acts rounds client server new_client
    new_server i joint settled unreset =
    let (are_rounds, quiet) = settled_quiet client server new_client new_server rounds _ _ acts
    settled refl refl in
    client_has_arrived client_values server_values before rounds client server new_client new_server
    i joint are_rounds quiet unreset

pub returns-clause-at_server : goal.returns-clause-at_server
returns-clause-at_server c client_values server_values before acts rounds client server new_client
    new_server i joint settled unreset =
    let (are_rounds, quiet) = settled_quiet client server new_client new_server rounds _ _ acts
    settled refl refl in
    server_has_arrived client_values server_values before rounds client server new_client new_server
    i joint are_rounds quiet unreset
