use Rattle.h2_message.proofs.Names.{arith, is_unusual}
use Rattle.h2_message.proofs.LaneLemmas.{ends_any}
use Rattle.h2_message.proofs.lanes.ends_have_unusual.Goals as goal

pub returns : goal.returns
returns g c =
    ends_any is_unusual c.args.octets.now g.row.N _ c.requires.least c.requires.most (omega arith)
    c.run_has_unusual.result c.run_has_unusual-2.result c.run_has_unusual.ensures
    c.run_has_unusual-2.ensures
