-- By the lemma on the encoding of DATA.
use Rattle.h2_output.proofs.EncodingLemmas.{data-head}
use Rattle.h2_output.proofs.data_head.data_head.Goals as goal

pub returns : goal.returns
returns c = λ octets same.
    rw (c.octets.ensures, c.from.ensures)
    (data-head c.args.stream c.args.length c.args.end octets same)
