-- The pieces in their order.
use Rattle.std.proofs.Common.{append_assoc}
use Rattle.h2_files.proofs.version.opaque_tag.Goals as goal

pub returns : goal.returns
returns c = simp append_assoc c.format.ensures.ok
