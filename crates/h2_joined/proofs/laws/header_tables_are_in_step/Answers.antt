-- By the lemmas of a pair on either direction.
use Rattle.h2_joined.proofs.Names.{half_of}
use Rattle.h2_laws_pair.proofs.TablesOfPairs.{tables_to_server, tables_to_client}
use Rattle.h2_joined.proofs.JointActs.{joint_holds}
use Rattle.h2_joined.proofs.laws.header_tables_are_in_step.Goals as goal

pub returns-clause-to_server : goal.returns-clause-to_server
returns-clause-to_server c = λ client_values server_values made client server way is under_way.
    let holds = joint_holds client_values server_values made client server is in
    tables_to_server client_values server_values (half_of client holds.stays.lost)
    (half_of server holds.stays.other_lost) way holds.stays.pair.0
    under_way

pub returns-clause-to_client : goal.returns-clause-to_client
returns-clause-to_client c = λ client_values server_values made client server way is under_way.
    let holds = joint_holds client_values server_values made client server is in
    tables_to_client client_values server_values (half_of client holds.stays.lost)
    (half_of server holds.stays.other_lost) way holds.stays.pair.0
    under_way
