use Rattle.h2_message.proofs.Names.{sym, ◌∙◌}
use Rattle.h2_message.proofs.LaneLemmas.{none_unusual}
use Rattle.h2_message.proofs.lanes.has_bad_after_first.Goals as goal

pub returns-else-has_unusual : goal.returns-else-has_unusual
returns-else-has_unusual c =
    c.if-has_unusual.false
    ∙ sym (none_unusual c.args.octets.now (sym c.has_unusual.ensures ∙ c.if-has_unusual.false))
