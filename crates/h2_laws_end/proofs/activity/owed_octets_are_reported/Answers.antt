-- By the lemmas on what is owed.
use Rattle.h2_laws_end.proofs.ActivityOwed.{none_owed_by_call, none_owed_by_take}
use Rattle.h2_laws_end.proofs.activity.owed_octets_are_reported.Goals as goal

pub returns-clause-calls : goal.returns-clause-calls
returns-clause-calls c = none_owed_by_call

pub returns-clause-takes : goal.returns-clause-takes
returns-clause-takes c = none_owed_by_take
