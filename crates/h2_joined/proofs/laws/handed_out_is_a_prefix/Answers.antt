-- By the lemma on either end.
use Rattle.h2_joined.proofs.RunParts.{parts_begin_at_server, parts_begin_at_client}
use Rattle.h2_joined.proofs.laws.handed_out_is_a_prefix.Goals as goal

pub returns-clause-at_server : goal.returns-clause-at_server
returns-clause-at_server c = parts_begin_at_server

pub returns-clause-at_client : goal.returns-clause-at_client
returns-clause-at_client c = parts_begin_at_client
