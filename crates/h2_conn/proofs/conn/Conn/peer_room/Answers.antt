-- The machine's window is the log's.
use Rattle.h2_conn.proofs.Names.{◌∙◌, end_of}
use Rattle.h2_laws_machine.proofs.PeerRoom.{peer_room_alike}
use Rattle.h2_conn.proofs.conn.Conn.peer_room.Goals as goal

pub returns : goal.returns
returns c values log parts =
    c.peer_room.ensures
    ∙ peer_room_alike values (end_of c.args.self.now.end) log c.args.id parts.machine
