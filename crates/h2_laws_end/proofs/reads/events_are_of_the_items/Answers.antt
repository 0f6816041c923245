-- By the lemma on the readings of every log.
use Rattle.h2_laws_end.proofs.ReadingCalls.{log_has_readings}
use Rattle.h2_laws_end.proofs.reads.events_are_of_the_items.Goals as goal

pub returns : goal.returns
returns c = log_has_readings
