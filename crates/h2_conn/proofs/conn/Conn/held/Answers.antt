-- A head and the greatest payload are kept at most.
use Rattle.h2_conn.proofs.Names.{◌≡◌, ◌∙◌, sym, None, end_of}
use Rattle.h2_conn.proofs.AskMemory.{held_at_most, none_of}
use Rattle.h2_conn.proofs.PartsFit.{fit_of}
use Rattle.h2_conn.proofs.conn.Conn.held.Goals as goal

pub returns-clause-bound : goal.returns-clause-bound
returns-clause-bound c values log parts =
    let e = end_of c.args.self.now.end in
    let up : e.failed ≡ None =
    sym c.failed.ensures ∙ none_of c.failed.result (sym c.if-is_some.ensures) in
    held_at_most values c.args.self.now.cutter e log c.held.result
    (fit_of values c.args.self.now.cutter _ _ e log parts)
    (sym parts.machine.failed ∙ up) c.held.ensures.preface c.held.ensures.frame
