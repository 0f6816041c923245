-- The lines are those of the input, each with its side.
use Rattle.std.proofs.Common.{rules}
use Rattle.h2_follow.proofs.SidesLemmas.{side_added}
use Rattle.h2_follow.proofs.sides.add_side.Goals as goal

pub returns-clause-shows : goal.returns-clause-shows
returns-clause-shows g c =
    side_added c.add_text.result _ c.args.options c.options_from.result c.args.side
    c.in_ok-shown.shown.status c.new-text.result.items c.show_input.new.out.items c.deref.result.now
    c.args.lines.now.items c.add_text.new.lines.items c.options_from.ensures c.new-text.ensures.items
    c.deref.ensures.value c.in_ok-shown.ensures.shows c.add_text.ensures (search rules)
