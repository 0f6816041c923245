-- The pieces in their order.
use Rattle.std.proofs.Common.{append_assoc}
use Rattle.h2_files.proofs.range.content_range.Goals as goal

pub returns : goal.returns
returns c = simp append_assoc c.format.ensures.ok
