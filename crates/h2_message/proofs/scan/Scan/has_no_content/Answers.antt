use Rattle.h2_message.proofs.Names.{codes, value_of, value_or_nothing, is_without_content}
use Rattle.h2_message.proofs.Names.{HasPseudo}
use Rattle.h2_message.proofs.VerdictStatuses.{no-content}
use Rattle.h2_message.proofs.scan.Scan.has_no_content.Goals as goal

pub returns : goal.returns
unfolding is_without_content value_or_nothing HasPseudo
returns c fields scan =
    no-content (value_of (codes ":status") fields) c.args.self.now.status c.eq.result
    scan.has_pseudo.status c.eq.ensures
