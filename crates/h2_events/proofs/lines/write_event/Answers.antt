-- The line is that of the event.
use Rattle.std.proofs.lemmas.Result.{on_ok_weaker}
use Rattle.h2_events.proofs.LineLemmas.{goaway_line, unprocessed_line}
use Rattle.h2_events.proofs.lines.write_event.Goals as goal

pub returns-in-GoAway : goal.returns-in-GoAway
returns-in-GoAway g c =
    rw c.in-GoAway.is (on_ok_weaker c.writeln-in-GoAway.result
    (goaway_line _ _ c.in-GoAway.last c.in-GoAway.code) c.writeln-in-GoAway.ensures.bytes)

pub returns-in-Unprocessed : goal.returns-in-Unprocessed
returns-in-Unprocessed g c =
    rw c.in-Unprocessed.is (on_ok_weaker c.writeln-in-Unprocessed.result
    (unprocessed_line _ _ c.in-Unprocessed.id) c.writeln-in-Unprocessed.ensures.bytes)
