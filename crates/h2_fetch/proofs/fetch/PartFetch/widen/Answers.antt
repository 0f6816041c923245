-- By the lemma on a fetch whose window is widened.
use Rattle.h2_engines.proofs.Names.{arith, refl}
use Rattle.h2_fetch.proofs.Widening.{widens_fetch}
use Rattle.h2_fetch.proofs.fetch.PartFetch.widen.Goals as goal

pub returns-clause-widens : goal.returns-clause-widens
returns-clause-widens c =
    widens_fetch c.args.count c.widen.result c.args.self.now _ (omega arith) c.widen.ensures refl
    refl
