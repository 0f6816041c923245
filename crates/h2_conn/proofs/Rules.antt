-- What an attribute `unfolding` opens at once: the place of a frame among those of a field block.
use Rattle.h2_block.specs.Grouping.{fault_inside, fault_outside}
use Rattle.h2_spec_log.specs.ItemRules.{may_be_first}
use Rattle.h2_conn.specs.Why.{rule_of_frame}

-- the fault of a frame that comes next
unfoldable pub place_rules : Unit {0}
unfolding fault_inside fault_outside
place_rules = tt

-- the rule that a frame breaks
unfoldable pub frame_rules : Unit {0}
unfolding may_be_first rule_of_frame
frame_rules = tt
