use Rattle.h2_message.proofs.BrokenParts.{named_where_refused}
use Rattle.h2_message.proofs.laws.refused_parts_break_a_rule.Goals as goal

pub returns : goal.returns
returns c reads parts part before = named_where_refused reads parts part before
