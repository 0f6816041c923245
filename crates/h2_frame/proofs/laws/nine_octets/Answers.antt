-- By the lemma on heads.
use Rattle.h2_frame.proofs.HeadLemmas.{head_of-append}
use Rattle.h2_frame.proofs.laws.nine_octets.Goals as goal

pub returns : goal.returns
returns c = head_of-append
