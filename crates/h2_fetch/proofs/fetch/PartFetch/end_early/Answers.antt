-- By the lemma on a client that ends.
use Rattle.h2_engines.proofs.Names.{refl}
use Rattle.h2_fetch.proofs.Ending.{part_ends}
use Rattle.h2_fetch.proofs.fetch.PartFetch.end_early.Goals as goal

pub returns-clause-ends : goal.returns-clause-ends
returns-clause-ends g c =
    part_ends _ _ c.args.self.now _ c.args.error c.end_early.result refl c.end_early.ensures.ends
