use Rattle.h2_message.proofs.Names.{◌≡◌, ◌||◌, drop, list_any, is_unusual}
use Rattle.h2_message.proofs.lanes.few_have_unusual.Given as goal

abbrev pub invariant-loop-octet : goal.invariant-loop-octet
invariant-loop-octet l =
    (l.found || list_any is_unusual (drop l.octet-index l.octets)) ≡ list_any is_unusual l.octets
