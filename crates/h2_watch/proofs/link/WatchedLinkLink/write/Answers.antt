-- A call that failed says of no octets.
use Rattle.std.proofs.lemmas.Result.{err_from_is_err_and}
use Rattle.h2_watch.proofs.WatchedLemmas.{still_none}
use Rattle.h2_watch.proofs.link.WatchedLinkLink.write.Goals as goal

pub returns-in_err-count-clause-shows : goal.returns-in_err-count-clause-shows
returns-in_err-count-clause-shows g c =
    let error = err_from_is_err_and c.from_residual.result c.from_residual.ensures.1 in
    rw error.1 (still_none _ _ _)
