-- What the watch has shown.
use Rattle.h2_watch.proofs.WatchedLemmas.{shows_once}
use Rattle.h2_watch.proofs.link.WatchedLink.show.Goals as goal

pub returns-in-Ok-clause-shows : goal.returns-in-Ok-clause-shows
returns-in-Ok-clause-shows g c = rw c.in-Some.is (shows_once _ _ _ _ _ _ c.in-Ok.ensures)
