-- By the lemmas on what is answered next.
use Rattle.h2_engines.proofs.Names.{refl}
use Rattle.h2_fetch.proofs.SeveralAnswers.{answers_kept, answers_later}
use Rattle.h2_fetch.proofs.connection.ClientConnection.next_on.Goals as goal

pub returns-in-Some-clause-next : goal.returns-in-Some-clause-next
returns-in-Some-clause-next g c =
    answers_kept _ c.args.self.now _ c.args.id refl refl c.in-Some.came
    c.in-Some.ensures

pub returns-in-None-clause-next : goal.returns-in-None-clause-next
returns-in-None-clause-next g c =
    answers_later _ c.args.self.now _ c.args.id refl refl _ c.wait_for.new.self
    c.wait_for.result c.in-None.ensures c.wait_for.ensures.waits
