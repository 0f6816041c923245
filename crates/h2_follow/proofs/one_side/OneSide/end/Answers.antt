-- After a fault nothing follows; else the viewer says what is unfinished.
use Rattle.h2_follow.proofs.Names.{[], sym, append-nil}
use Rattle.h2_follow.proofs.SideLemmas.{over_ends, end_told}
use Rattle.h2_follow.proofs.one_side.OneSide.end.Goals as goal

pub returns-then-self : goal.returns-then-self
returns-then-self c = ([], sym (append-nil _), over_ends c.args.self.now c.if-self.true)

pub returns : goal.returns
returns c =
    end_told c.args.self.now _ _ c.show_end.result c.if-self.false c.show_end.ensures.status
    c.show_end.ensures.lines
