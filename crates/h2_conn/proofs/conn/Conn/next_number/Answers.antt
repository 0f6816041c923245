-- The machine's value is the log's.
use Rattle.h2_conn.proofs.Names.{◌≡◌, false, Some, is_some, ap, sym, ◌∙◌, is_server, end_of}
use Rattle.h2_conn.proofs.AskNumbers.{number_by}
use Rattle.h2_conn.proofs.TakeStart.{is_a_server}
use Rattle.h2_conn.proofs.conn.Conn.next_number.Goals as goal

pub returns : goal.returns
returns c values log parts =
    let e = end_of c.args.self.now.end in
    let up : is_some e.failed ≡ false =
    ap is_some (sym c.failed.ensures) ∙ sym c.is_some.ensures ∙ c.if-is_some.false in
    let client : is_server e.role ≡ false =
    ap is_server (sym c.role.ensures) ∙ sym (is_a_server c.role.result) ∙ sym c.eq.ensures
    ∙ c.if-eq.false in
    ap Some c.next_number.ensures ∙ number_by values e log parts.machine up client
