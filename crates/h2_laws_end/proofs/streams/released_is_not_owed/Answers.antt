-- By the lemmas on what is owed after a release.
use Rattle.h2_laws_end.proofs.OverRoom.{none_owed, none_owed_more}
use Rattle.h2_laws_end.proofs.streams.released_is_not_owed.Goals as goal

pub returns-clause-all : goal.returns-clause-all
returns-clause-all c = λ log id may. none_owed log id

pub returns-clause-others : goal.returns-clause-others
returns-clause-others c = λ log id count i answer may. none_owed_more log id count i answer
