-- By the lemmas on streams that stay active.
use Rattle.h2_laws_end.proofs.ActivityCalls.{active_by_call}
use Rattle.h2_laws_end.proofs.ActivityTakes.{active_by_take}
use Rattle.h2_laws_end.proofs.activity.active_streams_stay_active.Goals as goal

pub returns-clause-calls : goal.returns-clause-calls
returns-clause-calls c = active_by_call

pub returns-clause-takes : goal.returns-clause-takes
returns-clause-takes c = active_by_take
