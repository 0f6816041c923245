use Rattle.h2_message.proofs.Names.{codes, value_of, value_or_nothing, HasPseudo}
use Rattle.h2_message.proofs.VerdictMethods.{head-method}
use Rattle.h2_message.proofs.scan.Scan.asks_head.Goals as goal

pub returns : goal.returns
unfolding value_or_nothing HasPseudo
returns c fields scan =
    head-method (value_of (codes ":method") fields) c.args.self.now.method c.eq.result
    scan.has_pseudo.method c.eq.ensures
