use Rattle.h2_message.proofs.Names.{sym, ◌∙◌}
use Rattle.h2_message.proofs.LaneLemmas.{none_low}
use Rattle.h2_message.proofs.lanes.has_bad_in_value.Goals as goal

pub returns-else-has_low : goal.returns-else-has_low
returns-else-has_low c =
    c.if-has_low.false
    ∙ sym (none_low c.args.octets.now (sym c.has_low.ensures ∙ c.if-has_low.false))
