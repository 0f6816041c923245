use Rattle.h2_message.proofs.Names.{codes, has_bad_status, is_interim, value_of, value_or_nothing}
use Rattle.h2_message.proofs.Names.{HasPseudo}
use Rattle.h2_message.proofs.VerdictStatuses.{interim-status}
use Rattle.h2_message.proofs.scan.Scan.has_interim_status.Goals as goal

pub returns : goal.returns
unfolding has_bad_status is_interim value_or_nothing HasPseudo
returns c fields scan =
    interim-status (value_of (codes ":status") fields) c.args.self.now.status c.eq.result
    scan.has_pseudo.status c.eq.ensures
