-- By the lemma on a log's stream.
use Rattle.h2_spec_log.proofs.StreamLemmas.{stream_of_log}
use Rattle.h2_spec_log.proofs.streams.frames_of_a_log.Goals as goal

pub returns-clause-frames : goal.returns-clause-frames
returns-clause-frames c = λ role values log is up. (stream_of_log role values log is).framed up

pub returns-clause-role : goal.returns-clause-role
returns-clause-role c = λ role values log is. (stream_of_log role values log is).role
