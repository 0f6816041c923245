use Rattle.h2_message.proofs.Names.{is_unusual}
use Rattle.h2_message.proofs.LaneLemmas.{scanned}
use Rattle.h2_message.proofs.lanes.few_have_unusual.Goals as goal

pub returns : goal.returns
returns c =
    scanned is_unusual c.args.octets.now c.loop-octet.found c.loop-octet.octet-index
    c.loop-octet-test.false c.loop-octet.invariant
