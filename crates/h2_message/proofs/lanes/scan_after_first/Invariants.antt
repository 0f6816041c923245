use Rattle.h2_message.proofs.Names.{◌≡◌, ◌||◌, drop, list_any, is_bad_after_first}
use Rattle.h2_message.proofs.lanes.scan_after_first.Given as goal

abbrev pub invariant-loop-octet : goal.invariant-loop-octet
invariant-loop-octet l =
    (l.bad || list_any is_bad_after_first (drop l.octet-index l.octets))
    ≡ list_any is_bad_after_first l.octets
