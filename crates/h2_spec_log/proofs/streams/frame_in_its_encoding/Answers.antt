-- By the lemma on frames in their encoding.
use Rattle.h2_spec_log.proofs.EncodingLemmas.{takes_comes}
use Rattle.h2_spec_log.proofs.streams.frame_in_its_encoding.Goals as goal

pub returns : goal.returns
returns c = takes_comes
