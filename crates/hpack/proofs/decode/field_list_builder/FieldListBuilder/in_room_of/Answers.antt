use Rattle.hpack.proofs.Names.{refl}
use Rattle.hpack.proofs.FieldListBuilderLemmas.{represents_none}
use Rattle.hpack.proofs.decode.field_list_builder.FieldListBuilder.in_room_of.Goals as goal

pub returns : goal.returns
returns c = represents_none _ c.args.list_limit c.clear-2.ensures.items refl
