use Rattle.h2_message.proofs.Names.{codes, has_bad_method, value_of, value_or_nothing, HasPseudo}
use Rattle.h2_message.proofs.VerdictMethods.{bad-method}
use Rattle.h2_message.proofs.scan.Scan.has_bad_method.Goals as goal

pub returns : goal.returns
unfolding has_bad_method value_or_nothing HasPseudo
returns c fields scan =
    bad-method (value_of (codes ":method") fields) c.args.self.now.method c.unwrap_or.result
    c.eq.result scan.has_pseudo.method c.unwrap_or.ensures c.eq.ensures
