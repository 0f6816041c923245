-- The viewer finds a fault, too, whose line is printed.
use Rattle.h2_follow.proofs.Names.{false}
use Rattle.h2_follow.proofs.SideLemmas.{fails_part}
use Rattle.h2_follow.proofs.one_side.OneSide.show_fault.Goals as goal

pub returns-in-Err-clause-part : goal.returns-in-Err-clause-part
returns-in-Err-clause-part c =
    fails_part c.end_with.result c.args.self.now c.end_with.new.self c.show_piece.new.self
    c.args.octets.now false 0 c.in-Err.error c.args.text.now.items c.show_piece.new.out.items
    c.end_with.new.text.items c.end_with.ensures.over c.end_with.ensures.fault
    c.end_with.ensures.lines c.show_piece.ensures.style c.in-Err.ensures.fault
