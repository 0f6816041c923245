-- By the lemmas on streams that become active.
use Rattle.h2_laws_end.proofs.ActivityCalls.{inactive_by_call}
use Rattle.h2_laws_end.proofs.ActivityOpened.{active_by_open, active_by_fields}
use Rattle.h2_laws_end.proofs.ActivityTakes.{inactive_by_take}
use Rattle.h2_laws_end.proofs.activity.streams_become_active.Goals as goal

pub returns-clause-calls : goal.returns-clause-calls
returns-clause-calls c = inactive_by_call

pub returns-clause-opened : goal.returns-clause-opened
returns-clause-opened c = active_by_open

pub returns-clause-takes : goal.returns-clause-takes
returns-clause-takes c = inactive_by_take

pub returns-clause-fields : goal.returns-clause-fields
returns-clause-fields c = active_by_fields
