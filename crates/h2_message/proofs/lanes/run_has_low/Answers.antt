use Rattle.h2_message.proofs.Names.{take, leb, is_low}
use Rattle.std.proofs.lemmas.List.{length-take-le}
use Rattle.h2_message.proofs.LaneLemmas.{lanes_any, lanes_up_to, top_full}
use Rattle.h2_message.proofs.lanes.run_has_low.Goals as goal

pub returns : goal.returns
unfolding is_low
returns g c =
    let v = take g.row.N c.args.octets.now in
    let long = length-take-le g.row.N c.args.octets.now c.requires.least in
    lanes_any is_low v _ long c.requires.lanes (lanes_up_to v g.row.N 13 long)
    (λ x. top_full (leb x 13))
