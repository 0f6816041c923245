-- A prefix of the piece was used: whatever handing the others makes, handing the piece makes.
use Rattle.std.proofs.Common.{length, ◌≤◌}
use Rattle.h2_events.specs.Replayer.{TakesPrefix}
use Rattle.h2_events.proofs.replayer.take_piece.Given as goal

abbrev pub invariant-loop : goal.invariant-loop
invariant-loop g l =
    record {
      within : l.done ≤ length l.piece;
      taken : TakesPrefix l.initial.conn l.piece l.done l.conn;
    }
