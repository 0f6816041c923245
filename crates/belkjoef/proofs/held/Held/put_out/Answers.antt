use Rattle.std.proofs.Common.{refl}
use Rattle.h2_conn.specs.Conn.{octets_queued}
use Rattle.belkjoef.specs.Helds.{held_end}
use Rattle.belkjoef.specs.Output.{OctetsWait}
use Rattle.belkjoef.proofs.CopiesOut.{copies_none, copies_out}
use Rattle.belkjoef.proofs.held.Held.put_out.Goals as goal

pub returns-in-Err-clause-does : goal.returns-in-Err-clause-does
returns-in-Err-clause-does c =
    copies_none c.args.buffer.now c.in-Err.refusal c.in-Err.is refl c.ready.ensures.does

pub returns-clause-does : goal.returns-clause-does
returns-clause-does c =
    let end = held_end c.ready.new.self in
    let waits : OctetsWait end (octets_queued end.conn) =
    λ values log represents. represents.machine.output.waiting in
    copies_out c.args.buffer.now c.copy_waiting-count.new.buffer
    (octets_queued c.conn.result.now) c.copy_waiting-count.result
    c.consume.result c.in_default.is c.ready.ensures.does
    (rw c.in_default.is at c.ready.ensures.returned)
    (rw c.conn.ensures waits)
    c.copy_waiting-count.ensures.count c.copy_waiting-count.ensures.copied
    c.consume.ensures.does c.consume.ensures.room
