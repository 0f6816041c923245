use Rattle.hpack_text.proofs.ReadLemmas.{all_octets}
use Rattle.hpack.proofs.encode.fields.are_octets.Goals as goal

pub returns : goal.returns
returns c = all_octets c.args.octets.now c.type_inv.octets
