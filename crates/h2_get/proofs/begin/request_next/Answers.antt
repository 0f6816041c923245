-- By what the client has answered.
use Rattle.h2_message.specs.Values.{message_value}
use Rattle.h2_get.proofs.RequestsMade.{accepted_next, refused_next}
use Rattle.h2_get.proofs.begin.request_next.Goals.{in-Ok, in-Err}
use Rattle.h2_get.proofs.begin.request_next.Goals as goal

pub returns : goal.returns
returns c = elim c.match-request.branch [
  | in-Ok w ↦ rw w.result-is (accepted_next (message_value c.args.message) w.in-Ok.id
      c.args.fetch.now c.request.new.self w.in-Ok.ensures.requests)
  | in-Err w ↦ rw w.result-is (refused_next (message_value c.args.message) w.in-Err.field-0-0
      w.in-Err.refusal _ c.args.fetch.now c.request.new.self w.error_of_request.ensures
      w.in-Err.ensures.requests)
]
