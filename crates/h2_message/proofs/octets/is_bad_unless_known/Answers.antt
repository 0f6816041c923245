use Rattle.h2_message.proofs.Names.{sym}
use Rattle.h2_message.proofs.octets.is_bad_unless_known.Goals as goal

pub returns-then-known : goal.returns-then-known
returns-then-known c good = sym (good c.if-known.true)
