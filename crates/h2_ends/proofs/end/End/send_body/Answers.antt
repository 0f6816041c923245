-- By what is kept of the message, and what the connection answers to its octets.
use Rattle.h2_ends.proofs.Names.{true, false, refl, inl, inr, arith, take, length, SendData}
use Rattle.h2_ends.proofs.Names.{Count}
use Rattle.h2_ends.proofs.Names.{Refused, with_call, end_with_log, end_with_more, with_octets}
use Rattle.h2_ends.proofs.Names.{err_from_is_err_and, given_stream}
use Rattle.h2_ends.proofs.EndTokens.{refused_tokens}
use Rattle.h2_ends.proofs.InSteps.{called_as}
use Rattle.h2_ends.proofs.PartAnswers.{body_not_open, body_breaks, body_refused, body_sent}
use Rattle.h2_ends.proofs.PartSends.{data_ends, data_goes_on, all_by, not_all_by, not_open_here}
use Rattle.h2_ends.proofs.PumpSends.{data_closes_none}
use Rattle.h2_ends.proofs.end.End.send_body.Goals.{else-end-via-then-end+else-count-octets}
use Rattle.h2_ends.proofs.end.End.send_body.Goals.{else-end-via-else-end}
use Rattle.h2_ends.proofs.LentStreams.{as_lent, given_lent}
use Rattle.h2_ends.specs.declared.outgoing.Outgoing.TheVariants as outgoings
use Rattle.h2_ends.specs.declared.refusal.EndRefusal.TheVariants as refusals
use Rattle.h2_ends.proofs.end.End.send_body.Goals as goal

pub returns-in_default : goal.returns-in_default
returns-in_default c = λ values end is. (
  end,
  body_not_open end c.args.id c.args.octets.now c.args.end refusals.NotAsked (not_open_here end
      c.args.id _ (λ rest goes. cc)
      (rw (← c.in_default.ensures.value) at (is.streams.streams c.args.id))),
  rw c.get_mut.follows.holds-at-none is,
)

pub returns-in_err-rest : goal.returns-in_err-rest
returns-in_err-rest c = λ values end is.
    let made = err_from_is_err_and c.from_residual.result c.from_residual.ensures.1 in
    rw (made.1, made.2) (
      end,
      body_not_open end c.args.id c.args.octets.now c.args.end _
          (c.in_err-rest.ensures values c.args.self.now end c.args.id is
          c.in-Some.ensures.value),
      as_lent c.args.self.now c.args.id c.in-Some.stream.now _ c.in-Some.ensures.value
          (c.get_mut.follows.holds c.in-Some.stream.now) values c.args.self.now.conn end is,
    )

pub returns-in_err-check : goal.returns-in_err-check
returns-in_err-check c = λ values end is.
    let rest = c.in_ok-rest.ensures values c.args.self.now end c.args.id is
    c.in-Some.ensures.value in
    let made = err_from_is_err_and c.from_residual-in_err-check.result
    c.from_residual-in_err-check.ensures.1 in
    rw (made.1, made.2) (
      end,
      body_breaks end c.args.id c.args.octets.now c.args.end c.in_ok-rest.rest _ rest.0 rest.1
          c.in_err-check.ensures.err,
      as_lent c.args.self.now c.args.id c.in-Some.stream.now _ c.in-Some.ensures.value
          (c.get_mut.follows.holds c.in-Some.stream.now) values c.args.self.now.conn end is,
    )

pub returns-in_err-count : goal.returns-in_err-count
returns-in_err-count c = λ values end is.
    let rest = c.in_ok-rest.ensures values c.args.self.now end c.args.id is
    c.in-Some.ensures.value in
    let made = err_from_is_err_and c.from_residual-in_err-count.result
    c.from_residual-in_err-count.ensures.1 in
    let refusal = c.in_err-count.field-0.0 in
    let act = SendData c.args.id c.args.octets.now c.args.end in
    let answers = c.in_err-count.ensures.answers values end.log is.streams.conn in
    rw (made.1, made.2) (
      end_with_log end (with_call end.log act (Refused refusal)),
      body_refused end c.args.id c.args.octets.now c.args.end c.in_ok-rest.rest refusal rest.0
          rest.1 c.in_ok-check.ensures.ok answers.0,
      as_lent c.args.self.now c.args.id c.in-Some.stream.now _ c.in-Some.ensures.value
          (c.get_mut.follows.holds c.in-Some.stream.now) values c.data.new.self _
          (called_as values c.args.self.now
          (record c.args.self.now { conn = c.data.new.self }) end act (Refused refusal) is
          answers.0 answers.1 refl refl refl (λ i. refused_tokens i act refusal) (λ i wrong. cc)
          (λ i. data_closes_none i c.args.id c.args.octets.now c.args.end refusal)),
    )

pub returns-then-count-octets : goal.returns-then-count-octets
returns-then-count-octets c = λ values end is.
    let octets = c.args.octets.now in
    let n = c.in_ok-count.count in
    let rest = c.in_ok-rest.ensures values c.args.self.now end c.args.id is
    c.in-Some.ensures.value in
    let answers = c.in_ok-count.ensures.answers values end.log is.streams.conn in
    let last = all_by c.args.end n (length octets) c.if-end.true
    (omega (arith, c.if-count-octets.true)) in
    let mid = record c.args.self.now { conn = c.data.new.self } in
    let stream = c.in-Some.stream.now in
    let gives = given_lent c.args.self.now c.args.id stream _ c.in-Some.ensures.value
    c.data.new.self outgoings.Sent (λ waiting wrong. cc)
    (c.get_mut.follows.holds (given_stream outgoings.Sent stream)) in
    let after = end_with_more end (SendData c.args.id octets c.args.end) (Count n) c.args.id
    (with_octets rest.0.said (take n octets) true) in (
      after,
      body_sent end c.args.id octets c.args.end c.in_ok-rest.rest n true rest.0 rest.1
          c.in_ok-check.ensures.ok answers.0 last,
      c.forget_if_over.ensures.represents values after
          (data_ends values c.args.self.now mid _ end c.args.id c.in_ok-rest.rest is
          rest.0 rest.1 refl refl refl octets c.args.end n last answers.0 answers.1
          gives),
    )

pub returns-else-end : goal.returns-else-end
returns-else-end c = λ values end is.
    let octets = c.args.octets.now in
    let n = c.in_ok-count.count in
    let rest = c.in_ok-rest.ensures values c.args.self.now end c.args.id is
    c.in-Some.ensures.value in
    let answers = c.in_ok-count.ensures.answers values end.log is.streams.conn in
    let last = not_all_by c.args.end n (length octets) (elim c.else-end.branch [
      | else-end-via-then-end+else-count-octets w ↦
          inr (omega (arith, w.if-count-octets.false))
      | else-end-via-else-end w ↦ inl w.if-end.false
    ]) in
    let mid = record c.args.self.now { conn = c.data.new.self } in
    let stream = c.in-Some.stream.now in
    let gives = given_lent c.args.self.now c.args.id stream _ c.in-Some.ensures.value
    c.data.new.self (outgoings.Open c.after.result) (λ waiting wrong. cc)
    (c.get_mut.follows.holds (given_stream (outgoings.Open c.after.result) stream)) in
    let after = end_with_more end (SendData c.args.id octets c.args.end) (Count n) c.args.id
    (with_octets rest.0.said (take n octets) false) in (
      after,
      body_sent end c.args.id octets c.args.end c.in_ok-rest.rest n false rest.0 rest.1
          c.in_ok-check.ensures.ok answers.0 last,
      data_goes_on values c.args.self.now mid _ end c.args.id
          c.in_ok-rest.rest is rest.0 rest.1 refl refl refl octets c.args.end n c.after.result last
          c.in_ok-count.ensures.within c.in_ok-check.ensures.ok c.after.ensures answers.0 answers.1
          gives,
    )
