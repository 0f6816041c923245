use Rattle.h2_message.proofs.Names.{sym, ◌∙◌}
use Rattle.h2_message.proofs.OctetLemmas.{bad_empty, bad_regular}
use Rattle.h2_message.proofs.octets.is_bad_regular_name.Goals as goal

pub returns-then-is_empty : goal.returns-then-is_empty
returns-then-is_empty c regular =
    c.if-is_empty.true
    ∙ bad_empty c.args.name.now (sym c.is_empty.ensures ∙ c.if-is_empty.true)

pub returns-else-is_empty : goal.returns-else-is_empty
returns-else-is_empty c regular =
    c.has_bad_after_first.ensures
    ∙ bad_regular c.args.name.now (sym c.is_empty.ensures ∙ c.if-is_empty.false) regular
