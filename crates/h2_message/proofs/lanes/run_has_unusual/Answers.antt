use Rattle.h2_message.proofs.Names.{take, leb, eqb, not, bit_or, is_unusual}
use Rattle.std.proofs.Common.{bit_and, ltb}
use Rattle.std.proofs.lemmas.List.{length-take-le}
use Rattle.std.proofs.lemmas.Simd.{zip2_of_maps}
use Rattle.h2_message.proofs.LaneLemmas.{lanes_any, lanes_below, other_lanes, lanes_from}
use Rattle.h2_message.proofs.LaneLemmas.{one_of_unusual}
use Rattle.h2_message.proofs.lanes.run_has_unusual.Goals as goal

pub returns : goal.returns
unfolding is_unusual
returns g c =
    let v = take g.row.N c.args.octets.now in
    let long = length-take-le g.row.N c.args.octets.now c.requires.least in
    lanes_any is_unusual v _ long c.requires.lanes (zip2_of_maps bit_and _ _ v
    (zip2_of_maps bit_or _ _ v (lanes_below v g.row.N 97 long) (lanes_from v g.row.N 127 long))
    (other_lanes v g.row.N 45 long))
    (λ x. one_of_unusual (ltb x 97) (leb 127 x) (not (eqb x 45)))
