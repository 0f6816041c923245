use Rattle.h2_message.proofs.Names.{◌∙◌}
use Rattle.h2_message.proofs.OctetLemmas.{ends_at, ends_empty}
use Rattle.h2_message.proofs.octets.ends_blank.Goals as goal

pub returns-in-empty : goal.returns-in-empty
returns-in-empty c = ends_empty c.args.value.now c.in-empty.len_below

pub returns-in-len1-up : goal.returns-in-len1-up
returns-in-len1-up c = c.is_blank.ensures ∙ ends_at c.args.value.now c.in-len1-up.len_at_least
