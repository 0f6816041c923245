-- By what a connection answers of itself.
use Rattle.h2_serve.proofs.ServedEnds.{cut_off_so}
use Rattle.h2_serve.proofs.serve.is_unfinished.Goals as goal

pub returns-else-held-gt0 : goal.returns-else-held-gt0
returns-else-held-gt0 c values log is up =
    cut_off_so log c.held.result c.next_live.result c.is_some.result
    (c.held.ensures.value values log is) c.if-held-gt0.false
    (c.next_live.ensures.number values log is) c.is_some.ensures up
