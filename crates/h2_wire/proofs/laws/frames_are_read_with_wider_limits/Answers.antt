-- By the lemma on wider limits.
use Rattle.h2_wire.proofs.LimitLemmas.{read_wider}
use Rattle.h2_wire.proofs.laws.frames_are_read_with_wider_limits.Goals as goal

pub returns : goal.returns
returns c = λ expects limits others stream frames unparsed wider read.
    read_wider expects limits others stream frames unparsed (λ place within. wider place) read
