-- So many first octets are written, at least one in each round, and no call has failed.
use Rattle.std.proofs.Common.{◌≡◌, ◌≤◌, [], take, length}
use Rattle.std.specs.Io.KnownBytes.{Appends}
use Rattle.h2_conn.specs.Conn.{octets_queued}
use Rattle.h2_engines.proofs.sending.write_waiting.Given as goal

abbrev pub invariant-loop : goal.invariant-loop
invariant-loop g l =
    record {
      within : l.written ≤ length (octets_queued l.conn);
      counted : l.counter ≤ l.written;
      failures : g.L.Link.faults l.link ≡ g.L.Link.faults l.initial.link;
      taken : Appends (g.L.Link.taken l.initial.link) (g.L.Link.taken l.link)
          (take l.written (octets_queued l.conn));
      ended : g.L.Link.ended l.link ≡ g.L.Link.ended l.initial.link;
      given : Appends (g.L.Link.given l.initial.link) (g.L.Link.given l.link) [];
    }
