-- By the lemma on the numbers of streams that calls open.
use Rattle.h2_laws_end.proofs.OverNumbers.{opened_is_new}
use Rattle.h2_laws_end.proofs.streams.opened_numbers_are_new.Goals as goal

pub returns : goal.returns
returns c = opened_is_new
