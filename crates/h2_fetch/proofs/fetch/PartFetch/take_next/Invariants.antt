-- The client fetches still, and nothing was answered yet.
use Rattle.h2_engines.proofs.Names.{◌≡◌, ◌≤◌, length}
use Rattle.h2_fetch.proofs.Comings.{TakesOn}
use Rattle.h2_fetch.proofs.fetch.PartFetch.take_next.Given as goal

abbrev pub invariant-loop : goal.invariant-loop
invariant-loop l =
    record {
      within : l.self.used ≤ l.self.filled;
      fits : l.self.filled ≤ length l.self.buffer.items;
      stream : l.self.id ≡ l.initial.self.id;
      takes : TakesOn l.initial.self l.self l.counter;
    }
