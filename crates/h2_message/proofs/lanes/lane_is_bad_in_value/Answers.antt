use Rattle.h2_message.proofs.Names.{eqb, bit_or, ◌≤◌, arith, is_bad_in_value}
use Rattle.std.proofs.lemmas.Simd.{zip2_of_maps}
use Rattle.h2_message.proofs.LaneLemmas.{lanes_any, equal_lanes, one_of_three}
use Rattle.h2_message.proofs.lanes.lane_is_bad_in_value.Goals as goal

pub returns : goal.returns
unfolding is_bad_in_value
returns c =
    let v = c.args.lane.now in
    let long = c.told-lane in
    let fits : 32 ≤ 64 = omega arith in
    lanes_any is_bad_in_value v _ long fits (zip2_of_maps bit_or _ _ v
    (zip2_of_maps bit_or _ _ v (equal_lanes v 32 0 long) (equal_lanes v 32 10 long))
    (equal_lanes v 32 13 long)) (λ x. one_of_three (eqb x 0) (eqb x 10) (eqb x 13))
