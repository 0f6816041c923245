use Rattle.hpack.proofs.Names.{arith}
use Rattle.hpack.proofs.RoomLemmas.{most_octets-list_size}
use Rattle.hpack.proofs.encode.room.octets_of_block.Goals as goal

pub overflow_sub-result : goal.overflow_sub-result
overflow_sub-result c =
    omega (arith, c.requires.size, most_octets-list_size c.args.fields.now)

pub returns : goal.returns
returns c =
    omega (arith, c.requires.size, most_octets-list_size c.args.fields.now)
