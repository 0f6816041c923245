-- Each item fits one octet.
use Rattle.h2_conn.proofs.Names.{all_octets}
use Rattle.h2_conn.proofs.calls.are_octets.Goals as goal

pub returns : goal.returns
returns c = all_octets c.args.octets.now c.type_inv.octets
