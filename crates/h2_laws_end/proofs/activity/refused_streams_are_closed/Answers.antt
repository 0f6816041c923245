-- By the lemma on streams that were refused.
use Rattle.h2_laws_end.proofs.ActivityCalls.{inactive_by_refusal}
use Rattle.h2_laws_end.proofs.activity.refused_streams_are_closed.Goals as goal

pub returns : goal.returns
returns c = inactive_by_refusal
