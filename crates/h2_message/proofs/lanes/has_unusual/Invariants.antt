use Rattle.h2_message.proofs.Names.{◌≡◌, drop, list_any, is_unusual}
use Rattle.h2_message.proofs.lanes.has_unusual.Given as goal

abbrev pub invariant-loop-lane : goal.invariant-loop-lane
invariant-loop-lane l =
    list_any (list_any is_unusual) (drop l.lane-index l.lanes)
    ≡ list_any (list_any is_unusual) l.lanes
