use Rattle.h2_message.proofs.Names.{arith, is_low}
use Rattle.h2_message.proofs.LaneLemmas.{ends_any}
use Rattle.h2_message.proofs.lanes.ends_have_low.Goals as goal

pub returns : goal.returns
returns g c =
    ends_any is_low c.args.octets.now g.row.N _ c.requires.least c.requires.most (omega arith)
    c.run_has_low.result c.run_has_low-2.result c.run_has_low.ensures c.run_has_low-2.ensures
