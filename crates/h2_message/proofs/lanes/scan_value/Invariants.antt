use Rattle.h2_message.proofs.Names.{◌≡◌, ◌||◌, drop, list_any, is_bad_in_value}
use Rattle.h2_message.proofs.lanes.scan_value.Given as goal

abbrev pub invariant-loop-lane : goal.invariant-loop-lane
invariant-loop-lane l =
    list_any (list_any is_bad_in_value) (drop l.lane-index l.lanes)
    ≡ list_any (list_any is_bad_in_value) l.lanes

abbrev pub invariant-loop-octet : goal.invariant-loop-octet
invariant-loop-octet l =
    (l.bad || list_any is_bad_in_value (drop l.octet-index l.rest))
    ≡ list_any is_bad_in_value l.rest
