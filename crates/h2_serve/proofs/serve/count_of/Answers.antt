-- Where it has not failed, its input has ended where it may, or not.
use Rattle.h2_engines.proofs.Names.{sym, ◌∙◌}
use Rattle.h2_conn.proofs.AskMemory.{none_of}
use Rattle.h2_serve.proofs.serve.count_of.Goals as goal

pub returns-then-is_cut_off : goal.returns-then-is_cut_off
returns-then-is_cut_off g c values log is =
    let failed = (rw c.conn.ensures at c.failed.ensures) values log is in
    (rw c.conn-2.ensures at c.if-is_cut_off.ensures) values log is
    (sym failed ∙ none_of c.failed.result (sym c.is_some.ensures ∙ c.if-is_some.false))
