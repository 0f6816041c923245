-- By what is kept of the message, and what the connection answers to its trailers.
use Rattle.h2_ends.proofs.Names.{true, refl, SendFields, Done, Refused, with_call}
use Rattle.h2_ends.proofs.Names.{end_with_log, given_stream}
use Rattle.h2_ends.proofs.Names.{end_with_more, with_trailers, err_from_is_err_and}
use Rattle.h2_ends.proofs.EndTokens.{refused_tokens}
use Rattle.h2_ends.proofs.InSteps.{called_as}
use Rattle.h2_ends.proofs.PartAnswers.{trailers_not_open, trailers_break, trailers_refused}
use Rattle.h2_ends.proofs.PartAnswers.{trailers_sent}
use Rattle.h2_ends.proofs.PartSends.{trailers_end, not_open_here}
use Rattle.h2_ends.proofs.RequestSteps.{refused_fields_keep}
use Rattle.h2_ends.proofs.LentStreams.{as_lent, given_lent}
use Rattle.h2_ends.specs.declared.outgoing.Outgoing.TheVariants as outgoings
use Rattle.h2_ends.specs.declared.refusal.EndRefusal.TheVariants as refusals
use Rattle.h2_ends.proofs.end.End.send_trailers.Goals as goal

pub returns-in_default : goal.returns-in_default
returns-in_default c = λ values end is. (
  end,
  trailers_not_open end c.args.id c.args.list.now refusals.NotAsked (not_open_here end c.args.id _
      (λ rest goes. cc) (rw (← c.in_default.ensures.value) at (is.streams.streams c.args.id))),
  rw c.get_mut.follows.holds-at-none is,
)

pub returns-in_err-rest : goal.returns-in_err-rest
returns-in_err-rest c = λ values end is.
    let made = err_from_is_err_and c.from_residual.result c.from_residual.ensures.1 in
    rw (made.1, made.2) (
      end,
      trailers_not_open end c.args.id c.args.list.now _ (c.in_err-rest.ensures values
          c.args.self.now end c.args.id is c.in-Some.ensures.value),
      as_lent c.args.self.now c.args.id c.in-Some.stream.now _ c.in-Some.ensures.value
          (c.get_mut.follows.holds c.in-Some.stream.now) values c.args.self.now.conn end is,
    )

pub returns-in_err-check_trailers : goal.returns-in_err-check_trailers
returns-in_err-check_trailers c = λ values end is.
    let rest = c.in_ok-rest.ensures values c.args.self.now end c.args.id is
    c.in-Some.ensures.value in
    let made = err_from_is_err_and c.from_residual-in_err-check_trailers.result
    c.from_residual-in_err-check_trailers.ensures.1 in
    rw (made.1, made.2) (
      end,
      trailers_break end c.args.id c.args.list.now c.in_ok-rest.rest _ rest.0 rest.1
          c.in_err-check_trailers.ensures.err,
      as_lent c.args.self.now c.args.id c.in-Some.stream.now _ c.in-Some.ensures.value
          (c.get_mut.follows.holds c.in-Some.stream.now) values c.args.self.now.conn end is,
    )

pub returns-in_err-fields : goal.returns-in_err-fields
returns-in_err-fields c = λ values end is.
    let rest = c.in_ok-rest.ensures values c.args.self.now end c.args.id is
    c.in-Some.ensures.value in
    let made = err_from_is_err_and c.from_residual-in_err-fields.result
    c.from_residual-in_err-fields.ensures.1 in
    let refusal = c.in_err-fields.field-0.0 in
    let act = SendFields c.args.id c.args.list.now true in
    let answers = c.in_err-fields.ensures.answers values end.log is.streams.conn in
    rw (made.1, made.2) (
      end_with_log end (with_call end.log act (Refused refusal)),
      trailers_refused end c.args.id c.args.list.now c.in_ok-rest.rest refusal rest.0 rest.1
          c.in_ok-check_trailers.ensures.ok answers.0,
      as_lent c.args.self.now c.args.id c.in-Some.stream.now _ c.in-Some.ensures.value
          (c.get_mut.follows.holds c.in-Some.stream.now) values c.fields.new.self _
          (called_as values c.args.self.now
          (record c.args.self.now { conn = c.fields.new.self }) end act (Refused refusal) is
          answers.0 answers.1 refl refl refl (λ i. refused_tokens i act refusal) (λ i wrong. cc)
          (λ i. refused_fields_keep i c.args.id c.args.list.now true refusal)),
    )

pub returns : goal.returns
returns c = λ values end is.
    let list = c.args.list.now in
    let rest = c.in_ok-rest.ensures values c.args.self.now end c.args.id is
    c.in-Some.ensures.value in
    let answers = c.in_ok-fields.ensures.answers values end.log is.streams.conn in
    let mid = record c.args.self.now { conn = c.fields.new.self } in
    let stream = c.in-Some.stream.now in
    let gives = given_lent c.args.self.now c.args.id stream _ c.in-Some.ensures.value
    c.fields.new.self outgoings.Sent (λ waiting wrong. cc)
    (c.get_mut.follows.holds (given_stream outgoings.Sent stream)) in
    let after = end_with_more end (SendFields c.args.id list true) Done c.args.id
    (with_trailers rest.0.said list) in (
      after,
      trailers_sent end c.args.id list c.in_ok-rest.rest rest.0 rest.1
          c.in_ok-check_trailers.ensures.ok answers.0,
      c.forget_if_over.ensures.represents values after
          (trailers_end values c.args.self.now mid _ end c.args.id c.in_ok-rest.rest
          is rest.0 rest.1 refl refl refl list answers.0 answers.1 gives),
    )
