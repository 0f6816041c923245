-- By the law of the connection's windows, where nothing is under way.
use Rattle.h2_joined.proofs.Names.{ends_to_server, ends_to_client, half_of}
use Rattle.h2_laws_pair.proofs.ConnectionWindows.{connection_conserved}
use Rattle.h2_joined.proofs.HeldCredit.{rest_is_held}
use Rattle.h2_joined.proofs.JointActs.{joint_holds}
use Rattle.h2_joined.proofs.laws.held_credit.Goals as goal
use Rattle.std.specs.Prelude.{[]}

pub returns-clause-to_server : goal.returns-clause-to_server
returns-clause-to_server c = λ client_values server_values made client server bound is up sent
    returned none below.
    let holds = joint_holds client_values server_values made client server is in
    rest_is_held client.happened.log server.happened.log bound none
    (connection_conserved (half_of client holds.stays.lost) (half_of server holds.stays.other_lost)
    [] [] bound (ends_to_server client_values server_values _ _ holds.stays.pair.0) up sent returned
    below)

pub returns-clause-to_client : goal.returns-clause-to_client
returns-clause-to_client c = λ client_values server_values made client server bound is up sent
    returned none below.
    let holds = joint_holds client_values server_values made client server is in
    rest_is_held server.happened.log client.happened.log bound none
    (connection_conserved (half_of server holds.stays.other_lost) (half_of client holds.stays.lost)
    [] [] bound (ends_to_client client_values server_values _ _ holds.stays.pair.0) up sent returned
    below)
