-- By the lemmas on what calls and reading leave of streams.
use Rattle.h2_laws_end.proofs.OverCalls.{used_by_call, over_by_call}
use Rattle.h2_laws_end.proofs.OverReads.{used_by_take, over_by_take}
use Rattle.h2_laws_end.proofs.streams.over_streams_stay_over.Goals as goal

pub returns-clause-used_by_calls : goal.returns-clause-used_by_calls
returns-clause-used_by_calls c = used_by_call

pub returns-clause-used_by_takes : goal.returns-clause-used_by_takes
returns-clause-used_by_takes c = used_by_take

pub returns-clause-over_by_calls : goal.returns-clause-over_by_calls
returns-clause-over_by_calls c = over_by_call

pub returns-clause-over_by_takes : goal.returns-clause-over_by_takes
returns-clause-over_by_takes c = over_by_take
