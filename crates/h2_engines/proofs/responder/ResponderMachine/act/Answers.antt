-- By what the server has answered or reset.
use Rattle.h2_engines.proofs.ServerMachine.{server_answers, server_resets}
use Rattle.h2_engines.proofs.responder.ResponderMachine.act.Goals as goal

pub returns-in-Answer-clause-acts : goal.returns-in-Answer-clause-acts
returns-in-Answer-clause-acts c =
    rw c.in-Answer.is (server_answers c.args.self.now c.answer.new.self c.in-Answer.id
    c.in-Answer.request c.answer.result c.answer.ensures.count c.answer.ensures.requests
    c.answer.ensures.err c.answer.ensures.answers)

pub returns-in-Reset-clause-acts : goal.returns-in-Reset-clause-acts
returns-in-Reset-clause-acts c =
    rw c.in-Reset.is (server_resets c.args.self.now c.reset.new.self c.in-Reset.id c.reset.result
    c.reset.ensures.fits c.reset.ensures.answered c.reset.ensures.requests
    c.reset.ensures.resets)
