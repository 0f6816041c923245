-- The client fetches still, and nothing has come on the stream.
use Rattle.h2_engines.proofs.Names.{◌≤◌, length}
use Rattle.h2_fetch.proofs.SeveralRounds.{TakesCame}
use Rattle.h2_fetch.proofs.connection.ClientConnection.take_next.Given as goal

abbrev pub invariant-loop : goal.invariant-loop
invariant-loop l =
    record {
      within : l.self.used ≤ l.self.filled;
      fits : l.self.filled ≤ length l.self.buffer.items;
      takes : TakesCame l.initial.self l.self l.fn.id l.counter;
    }
