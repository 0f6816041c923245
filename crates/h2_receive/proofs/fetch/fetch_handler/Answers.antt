-- By the lemmas on a fetch that has begun, or has not.
use Rattle.h2_receive.proofs.Hearing.{not_begun, receives_begun}
use Rattle.h2_receive.proofs.fetch.fetch_handler.Goals as goal

pub returns-in-Ok-clause-fetches : goal.returns-in-Ok-clause-fetches
returns-in-Ok-clause-fetches g c =
    receives_begun c.in-Ok.fetch c.in-Ok.ensures.ok c.receive.ensures.receives

pub returns-in-Err-clause-fetches : goal.returns-in-Err-clause-fetches
returns-in-Err-clause-fetches g c =
    not_begun c.in-Err.error c.in-Err.ensures.refused c.over.ensures
