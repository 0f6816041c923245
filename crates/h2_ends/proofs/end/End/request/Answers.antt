-- By the lemmas on an end that has opened a stream.
use Rattle.h2_ends.proofs.Names.{refl, Number, message_value, end_with_said, at_once}
use Rattle.h2_ends.proofs.Names.{broken_by_request}
use Rattle.h2_ends.specs.EndCalls.{opened_with}
use Rattle.h2_ends.proofs.RequestHeads.{request_given, may_ask, breaks_asking, refuses_asking}
use Rattle.h2_ends.proofs.RequestSent.{left_of_message}
use Rattle.h2_ends.proofs.end.End.request.Goals as goal

pub returns-in-Err : goal.returns-in-Err
returns-in-Err c = (
  refl,
  λ values end is. (
    end,
    breaks_asking (broken_by_request (message_value c.args.message)) end
        (at_once (message_value c.args.message)) c.in-Err.rule c.in-Err.ensures.err,
    is,
  ),
)

pub returns-in-Ok : goal.returns-in-Ok
returns-in-Ok c = (
  tt,
  λ values end is.
      let message = message_value c.args.message in
      let said = at_once message in
      let id = c.in-Ok.id in
      let opens = c.in-Ok.ensures values end is in
      let after = end_with_said end (opened_with said) (Number id) id said in (
        after,
        may_ask values (broken_by_request message) end said c.args.self.now c.open.new.self id
            c.in_default.ensures.ok opens,
        request_given values c.args.self.now c.open.new.self c.keep.new.self end id said
            c.outgoing_of.result is opens c.keep.ensures
            (left_of_message after id c.args.message c.outgoing_of.result c.outgoing_of.ensures
            opens.fits),
      ),
)

pub returns-in-Err-open : goal.returns-in-Err-open
returns-in-Err-open c = rw c.into.ensures (
  refl,
  λ values end is.
      let refuses = c.in-Err-open.ensures values end is in (
        refuses.0,
        refuses_asking (broken_by_request (message_value c.args.message)) end refuses.0
            (at_once (message_value c.args.message)) c.in-Err-open.refusal
            c.in_default.ensures.ok refuses.1 refuses.2,
        refuses.3,
      ),
)
