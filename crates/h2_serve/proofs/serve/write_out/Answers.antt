-- By the lemmas on output that is written.
use Rattle.h2_engines.proofs.Names.{traffic}
use Rattle.h2_serve.proofs.WrittenOutput.{written_so, wrote_ends, wrote_failures}
use Rattle.h2_serve.proofs.serve.write_out.Goals as goal

pub returns-clause-writes : goal.returns-clause-writes
returns-clause-writes g c begin was ready =
    let link = c.write_waiting-written.new.link in
    let now = traffic (g.L.Link.given link) (g.L.Link.taken link) (g.L.Link.stalled link) in
    let written = c.written.ensures in
    let made = written.wrote begin.values was.after was.represents in
    written_so now c.args.connection.now c.written.new.self was made written.calls.told
    c.write_waiting-written.ensures.gives_none _ _ c.write_waiting-written.result
    (rw c.conn.ensures at c.write_waiting-written.ensures.writes)
    c.write_waiting-written.ensures.stalled ready

pub returns-clause-failures : goal.returns-clause-failures
returns-clause-failures g c =
    wrote_failures _ _ _ _ c.write_waiting-written.result _ c.write_waiting-written.ensures.writes

pub returns-clause-err : goal.returns-clause-err
returns-clause-err g c =
    wrote_ends _ _ _ _ c.write_waiting-written.result _ c.write_waiting-written.ensures.writes
