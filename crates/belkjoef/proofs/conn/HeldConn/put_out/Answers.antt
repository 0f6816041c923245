use Rattle.std.proofs.Common.{refl}
use Rattle.h2_conn.specs.Conn.{octets_queued}
use Rattle.belkjoef.proofs.ConnCopies.{conn_copies_none, conn_copies_out}
use Rattle.belkjoef.proofs.conn.HeldConn.put_out.Goals as goal

pub returns-in-Err : goal.returns-in-Err
returns-in-Err c =
    conn_copies_none c.args.self.now.conn c.ready.new.self c.args.buffer.now c.in-Err.refusal
    c.in-Err.is refl c.ready.ensures.answers

pub returns : goal.returns
returns c = conn_copies_out c.args.self.now.conn c.ready.new.self c.consume.new.self
    c.args.buffer.now c.copy_waiting-count.new.buffer (octets_queued c.ready.new.self)
    c.copy_waiting-count.result c.consume.result c.in_default.is c.ready.ensures.answers
    (rw c.in_default.is at c.ready.ensures.returned)
    (λ values log represents. represents.machine.output.waiting)
    c.copy_waiting-count.ensures.count c.copy_waiting-count.ensures.copied
    c.consume.ensures.answers c.consume.ensures.room
