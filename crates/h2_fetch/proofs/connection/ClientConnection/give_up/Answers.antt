-- By the lemmas on a response that is given up.
use Rattle.h2_engines.proofs.Names.{◌∙◌, arith, refl, sym}
use Rattle.h2_fetch.proofs.GivingUp.{given_up_so, refused_so}
use Rattle.h2_fetch.proofs.connection.ClientConnection.give_up.Goals as goal

pub returns-in-Ok : goal.returns-in-Ok
returns-in-Ok c =
    given_up_so c.args.id c.reset.result c.args.self.now _ (omega arith)
    (rw c.number.ensures at c.reset.ensures) refl (sym c.in-Ok.is ∙ c.unless_over.ensures)
    c.remove.ensures.updates

pub returns-in-Err : goal.returns-in-Err
returns-in-Err c =
    refused_so c.args.id c.reset.result c.args.self.now _ (omega arith)
    (rw c.number.ensures at c.reset.ensures) refl _
    (sym c.in-Err.is ∙ c.unless_over.ensures) refl
