use Rattle.hpack_text.proofs.ReadLemmas.{all_octets}
use Rattle.hpack.proofs.table.eviction.size_of_octets.Goals as goal

pub returns-clause-name : goal.returns-clause-name
returns-clause-name c = all_octets c.args.name.now c.type_inv.name

pub returns-clause-value : goal.returns-clause-value
returns-clause-value c = all_octets c.args.value.now c.type_inv.value
