-- By what a connection answers of itself.
use Rattle.h2_engines.proofs.Names.{inl}
use Rattle.h2_serve.proofs.ServedEnds.{block_so}
use Rattle.h2_serve.proofs.serve.is_cut_off.Goals as goal

pub returns-else-is_unfinished : goal.returns-else-is_unfinished
returns-else-is_unfinished c values log is up =
    block_so log c.block_stream.result c.is_some.result (c.block_stream.ensures values log is)
    c.is_some.ensures up (c.if-is_unfinished.ensures values log is up)

pub returns-then-is_unfinished : goal.returns-then-is_unfinished
returns-then-is_unfinished c values log is up =
    rw c.if-is_unfinished.true (inl (c.if-is_unfinished.ensures values log is up))
