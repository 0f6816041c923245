-- By what is kept of the stream, and what the connection answers to the head.
use Rattle.h2_ends.proofs.Names.{refl, SendFields, Refused, with_call, message_value}
use Rattle.h2_ends.proofs.Names.{end_with_log, err_from_is_err_and, at_once}
use Rattle.h2_ends.proofs.InSteps.{called_as}
use Rattle.h2_ends.proofs.EndTokens.{refused_tokens}
use Rattle.h2_ends.proofs.RequestSends.{unchanged_by}
use Rattle.h2_ends.proofs.RequestSteps.{refused_fields_keep}
use Rattle.h2_ends.proofs.RespondHeads.{replies_not, breaks_reply, refuses_reply, may_reply}
use Rattle.h2_ends.proofs.RespondHeads.{broken_alike}
use Rattle.h2_ends.specs.EndCalls.{broken_by_answer}
use Rattle.h2_ends.proofs.outgoing.Stream.answer.Goals as goal

pub returns-in_err-to_head : goal.returns-in_err-to_head
returns-in_err-to_head c = λ values old end is conn role was.
    let message = message_value c.args.message.now in
    let made = err_from_is_err_and c.from_residual.result c.from_residual.ensures.1 in
    rw (made.1, made.2) (
      end,
      replies_not (broken_by_answer end c.args.id message) end c.args.id (at_once message) _
          (c.in_err-to_head.ensures values old end c.args.id is role was),
      rw (← conn) is,
    )

pub returns-in-Err : goal.returns-in-Err
returns-in-Err c = λ values old end is conn role was.
    let message = message_value c.args.message.now in
    let asks = c.in_ok-to_head.ensures values old end c.args.id is role was in (
      end,
      breaks_reply (broken_by_answer end c.args.id message) end c.args.id (at_once message)
          c.in-Err.rule asks.0 asks.1
          (broken_alike end c.args.id message asks.2 (c.in-Err.ensures.err)),
      rw (← conn) is,
    )

pub returns : goal.returns
returns c = λ values old end is conn role was.
    let message = message_value c.args.message.now in
    let asks = c.in_ok-to_head.ensures values old end c.args.id is role was in
    let sends = c.in_ok-send_head.ensures values end.log (rw (← conn) is.streams.conn) in (
      record {
        asked = asks.0;
        unsaid = asks.1;
        fits = sends.0;
        answers = sends.1;
        conn = sends.2;
        role = refl;
        streams = refl;
        spans = refl;
      },
      may_reply (broken_by_answer end c.args.id message) end c.args.id (at_once message) asks.0
          asks.1 (broken_alike end c.args.id message asks.2 (c.in_default.ensures.ok))
          sends.0 sends.1,
    )

pub returns-in_err-send_head : goal.returns-in_err-send_head
returns-in_err-send_head c = λ values old end is conn role was.
    let message = message_value c.args.message.now in
    let asks = c.in_ok-to_head.ensures values old end c.args.id is role was in
    let made = err_from_is_err_and c.from_residual-in_err-send_head.result
    c.from_residual-in_err-send_head.ensures.1 in
    let refusal = c.in_err-send_head.field-0.0 in
    let sends = c.in_err-send_head.ensures values end.log (rw (← conn) is.streams.conn) in
    let act = SendFields c.args.id sends.0 sends.1 in
    rw (made.1, made.2) (
      end_with_log end (with_call end.log act (Refused refusal)),
      refuses_reply (broken_by_answer end c.args.id message) end c.args.id (at_once message) _
          refusal asks.0 asks.1
          (broken_alike end c.args.id message asks.2 (c.in_default.ensures.ok))
          sends.2 (unchanged_by end act refusal sends.3 tt sends.4),
      called_as values old (record old { conn = c.send_head.new.conn }) end act
          (Refused refusal) is sends.4 sends.5 refl refl
          refl (λ i. refused_tokens i (SendFields c.args.id sends.0 sends.1) refusal)
          (λ i wrong. cc) (λ i. refused_fields_keep i c.args.id sends.0 sends.1 refusal),
    )
