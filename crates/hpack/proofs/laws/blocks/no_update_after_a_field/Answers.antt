use Rattle.hpack.proofs.BlockLemmas.{no_update_after_fields}
use Rattle.hpack.proofs.laws.blocks.no_update_after_a_field.Goals as goal

pub returns : goal.returns
returns c = no_update_after_fields
