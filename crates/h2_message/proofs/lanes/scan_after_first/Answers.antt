use Rattle.h2_message.proofs.Names.{is_bad_after_first}
use Rattle.h2_message.proofs.LaneLemmas.{scanned}
use Rattle.h2_message.proofs.lanes.scan_after_first.Goals as goal

pub returns : goal.returns
returns c =
    scanned is_bad_after_first c.args.octets.now c.loop-octet.bad c.loop-octet.octet-index
    c.loop-octet-test.false c.loop-octet.invariant
