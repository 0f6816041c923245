-- What the viewer has printed, and the line of a fault.
use Rattle.std.proofs.Common.{[], sym, append-nil}
use Rattle.h2_watch.proofs.WatchLemmas.{fault_added, more_shows, over_shows}
use Rattle.h2_watch.proofs.watch.WatchedSide.add_lines.Goals as goal

pub returns-then-self : goal.returns-then-self
returns-then-self c =
    ([], sym (append-nil _), over_shows c.args.self.now c.args.octets.now c.if-self.true)

pub returns-in-Ok : goal.returns-in-Ok
returns-in-Ok c =
    let (lines, appended, prints) = c.in-Ok.ensures.shown in (
      _,
      appended.0,
      more_shows c.args.self.now (record c.args.self.now { viewer = c.show_piece.new.self })
          c.args.octets.now lines c.if-self.false c.if-self.false c.show_piece.ensures.style
          appended.1 prints,
    )

pub returns-in-Err : goal.returns-in-Err
returns-in-Err c =
    fault_added c.end_with.result c.args.self.now c.end_with.new.self c.show_piece.new.self
    c.args.octets.now c.in-Err.error c.args.text.now.items c.show_piece.new.out.items
    c.end_with.new.text.items c.if-self.false c.end_with.ensures.over c.show_piece.ensures.style
    c.in-Err.ensures.fault c.end_with.ensures.fault c.end_with.ensures.lines
