-- By the lemma on a new server.
use Rattle.h2_engines.proofs.Names.{refl}
use Rattle.h2_engines.proofs.WithoutLinkStart.{new_serves}
use Rattle.h2_engines.proofs.responder.Responder.new.Goals as goal

pub returns-clause-alone : goal.returns-clause-alone
returns-clause-alone c =
    new_serves _ c.args.config.in_range c.in-Ok.ensures.ok c.new-2.ensures refl
