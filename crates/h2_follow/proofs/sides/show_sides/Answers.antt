-- The lines of the client's input, and then those of the server's, are written at once.
use Rattle.std.proofs.Common.{rules}
use Rattle.h2_follow.proofs.SidesLemmas.{both_written}
use Rattle.h2_follow.proofs.sides.show_sides.Goals as goal

pub returns-clause-shows : goal.returns-clause-shows
returns-clause-shows g c =
    both_written c.write_lines.result _ _ c.args.options c.in_ok-one.one.status
    c.in_ok-two.two.status c.both.result c.new-lines.result.items c.add_side.new.lines.items
    c.add_side-2.new.lines.items c.deref.result.now _ _ c.new-lines.ensures.items
    c.deref.ensures.value c.in_ok-one.ensures.shows c.in_ok-two.ensures.shows c.write_lines.ensures
    (search rules) c.both.ensures
