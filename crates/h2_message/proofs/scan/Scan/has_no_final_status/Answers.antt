use Rattle.h2_message.proofs.Names.{codes, sym, ◌∙◌, has_bad_status, is_interim, value_of}
use Rattle.h2_message.proofs.Names.{value_or_nothing, HasPseudo}
use Rattle.h2_message.proofs.ScanNames.{or-then, or-else}
use Rattle.h2_message.proofs.VerdictStatuses.{no-final-status}
use Rattle.h2_message.proofs.scan.Scan.has_no_final_status.Goals as goal

pub returns-then-eq : goal.returns-then-eq
unfolding has_bad_status is_interim value_or_nothing HasPseudo
returns-then-eq c fields scan =
    or-then _ _ _ (sym c.eq.ensures ∙ c.if-eq.true) c.if-eq.true
    ∙ no-final-status (value_of (codes ":status") fields) c.args.self.now.status
    c.unwrap_or-status.result scan.has_pseudo.status c.unwrap_or-status.ensures

pub returns-else-eq : goal.returns-else-eq
unfolding has_bad_status is_interim value_or_nothing HasPseudo
returns-else-eq c fields scan =
    or-else _ _ _ (sym c.eq.ensures ∙ c.if-eq.false) c.eq-else-eq.ensures
    ∙ no-final-status (value_of (codes ":status") fields) c.args.self.now.status
    c.unwrap_or-status.result scan.has_pseudo.status c.unwrap_or-status.ensures
