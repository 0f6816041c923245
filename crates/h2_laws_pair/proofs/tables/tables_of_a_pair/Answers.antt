-- By the lemmas on either direction.
use Rattle.h2_laws_pair.proofs.TablesOfPairs.{tables_to_server, tables_to_client}
use Rattle.h2_laws_pair.proofs.tables.tables_of_a_pair.Goals as goal

pub returns-clause-to_server : goal.returns-clause-to_server
returns-clause-to_server c = tables_to_server

pub returns-clause-to_client : goal.returns-clause-to_client
returns-clause-to_client c = tables_to_client
