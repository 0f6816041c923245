-- By the lemma on a fetch whose window is widened.
use Rattle.h2_engines.proofs.Names.{arith, refl}
use Rattle.h2_fetch.proofs.Widening.{widens_several}
use Rattle.h2_fetch.proofs.connection.ClientConnection.widen.Goals as goal

pub returns : goal.returns
returns c =
    widens_several c.args.count c.widen.result c.args.self.now _ (omega arith) c.widen.ensures refl
    refl
