use Rattle.h2_message.proofs.Names.{codes, not, sym, ap, ◌∙◌, has_bad_path, value_of}
use Rattle.h2_message.proofs.Names.{value_or_nothing, or_nothing, HasPseudo}
use Rattle.h2_message.proofs.VerdictMethods.{options-method, slash-path, star-path, no-path}
use Rattle.h2_message.proofs.scan.Scan.has_bad_path.Goals as goal

pub returns-in-Bad : goal.returns-in-Bad
unfolding has_bad_path value_or_nothing HasPseudo
returns-in-Bad c fields scan =
    sym (no-path (or_nothing (value_of (codes ":method") fields))
    (value_of (codes ":path") fields) c.args.self.now.path c.unwrap_or.result
    scan.has_pseudo.path c.unwrap_or.ensures c.in-Bad.is)

pub returns-in-Asterisk : goal.returns-in-Asterisk
unfolding has_bad_path value_or_nothing HasPseudo
returns-in-Asterisk c fields scan =
    c.ne.ensures
    ∙ (ap not (options-method (value_of (codes ":method") fields) c.args.self.now.method
    scan.has_pseudo.method)
    ∙ sym (star-path (or_nothing (value_of (codes ":method") fields))
    (value_of (codes ":path") fields) c.args.self.now.path c.unwrap_or.result
    scan.has_pseudo.path c.unwrap_or.ensures c.in-Asterisk.is))

pub returns-in-Slash : goal.returns-in-Slash
unfolding has_bad_path value_or_nothing HasPseudo
returns-in-Slash c fields scan =
    sym (slash-path (or_nothing (value_of (codes ":method") fields))
    (value_of (codes ":path") fields) c.args.self.now.path c.unwrap_or.result
    scan.has_pseudo.path c.unwrap_or.ensures c.in-Slash.is)
