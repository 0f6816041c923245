-- By the lemma on either end.
use Rattle.h2_joined.proofs.RunParts.{parts_whole_at_client, parts_whole_at_server}
use Rattle.h2_joined.proofs.laws.quiet_ends_have_all.Goals as goal

pub returns-clause-at_server : goal.returns-clause-at_server
returns-clause-at_server c = parts_whole_at_server

pub returns-clause-at_client : goal.returns-clause-at_client
returns-clause-at_client c = parts_whole_at_client
