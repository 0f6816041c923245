-- What an end replies: to SETTINGS an acknowledgment, and to PING its octets (RFC 9113, sections
-- 6.5.3 and 6.7). Lists have the newest first.
use Rattle.std.specs.Prelude.{true, false, List, [], ◌∷◌}
use Rattle.h2_frame.specs.Frames.{Settings, Ping}
use Rattle.h2_block.specs.Grouping.{Item, alone}

-- the replies that items ask for, one for each SETTINGS and each PING that is no reply itself
-- rule: 6.5.3 SETTINGS are acknowledged before anything else is sent
-- rule: 6.7 PING is answered with its octets and ACK, and an answer is not answered
unfoldable pub replies_owed : List Item → List Item
replies_owed [] = []
replies_owed (alone (Settings false pairs) ∷ items) = alone (Settings true []) ∷ replies_owed items
replies_owed (alone (Ping false octets) ∷ items) = alone (Ping true octets) ∷ replies_owed items
replies_owed (_ ∷ items) = replies_owed items

-- the replies among items
-- rule: 6.5.3 SETTINGS are acknowledged before anything else is sent
-- rule: 6.7 PING is answered with its octets and ACK, and an answer is not answered
unfoldable pub replies_among : List Item → List Item
replies_among [] = []
replies_among (alone (Settings true pairs) ∷ items) =
    alone (Settings true pairs) ∷ replies_among items
replies_among (alone (Ping true octets) ∷ items) = alone (Ping true octets) ∷ replies_among items
replies_among (_ ∷ items) = replies_among items
