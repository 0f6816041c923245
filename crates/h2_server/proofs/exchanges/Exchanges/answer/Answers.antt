use Rattle.h2_server.specs.Exchanges.{handling_of}
use Rattle.h2_server.proofs.StepsMade.{nothing_handles, then_handles}
use Rattle.h2_server.proofs.exchanges.Exchanges.answer.Goals as goal

pub returns-then-not-has_answer : goal.returns-then-not-has_answer
returns-then-not-has_answer g c =
    nothing_handles c.args.server.now.end (handling_of c.args.self.now)

pub returns-in_err-give_instead : goal.returns-in_err-give_instead
returns-in_err-give_instead g c = then_handles c.give_next.ensures c.give_instead.ensures

pub returns : goal.returns
returns g c =
    rw c.note_rest.ensures.same
    (then_handles (then_handles c.give_next.ensures c.give_instead.ensures) c.end_if_over.ensures)
