use Rattle.h2_message.proofs.Names.{◌∙◌, is_unusual}
use Rattle.h2_message.proofs.LaneLemmas.{lane_any}
use Rattle.h2_message.proofs.lanes.lane_has_unusual.Goals as goal

pub returns : goal.returns
returns c =
    c.run_has_unusual.ensures
    ∙ lane_any is_unusual c.args.lane.now c.as_slice.result.now c.told-lane c.as_slice.ensures
