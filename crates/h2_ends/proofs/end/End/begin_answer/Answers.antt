-- By what is kept of the stream, and what the connection answers to the head.
use Rattle.h2_ends.proofs.Names.{false, refl, arith, Done, SendFields}
use Rattle.h2_ends.proofs.Names.{Refused, given_stream}
use Rattle.h2_ends.proofs.Names.{with_call, begun, end_with_log, end_with_said, broken_by_head}
use Rattle.h2_ends.proofs.Names.{err_from_is_err_and, answered_with, answer_reads}
use Rattle.h2_ends.proofs.InSteps.{called_as}
use Rattle.h2_ends.proofs.EndTokens.{refused_tokens}
use Rattle.h2_ends.proofs.RequestHeads.{respond_waits}
use Rattle.h2_ends.proofs.RequestRefusals.{refuses_fitting, refused_so}
use Rattle.h2_ends.proofs.RequestSends.{unchanged_by, fields_typed}
use Rattle.h2_ends.proofs.RequestSteps.{refused_fields_keep}
use Rattle.h2_ends.proofs.RespondHeads.{replies_not, breaks_reply, refuses_reply, may_reply}
use Rattle.h2_ends.proofs.RespondHeads.{nothing_asked}
use Rattle.h2_ends.proofs.LentStreams.{as_lent, given_lent}
use Rattle.h2_ends.proofs.PartBegins.{begun_fits, left_of_begun}
use Rattle.h2_ends.specs.declared.outgoing.Outgoing.TheVariants as outgoings
use Rattle.h2_ends.specs.declared.refusal.EndRefusal.TheVariants as refusals
use Rattle.h2_ends.proofs.end.End.begin_answer.Goals as goal

pub returns-in_default : goal.returns-in_default
returns-in_default c = λ values end is.
    let reads = answer_reads end c.args.id in (
      end,
      replies_not (broken_by_head reads c.args.head.now) end c.args.id
          (begun reads c.args.head.now) refusals.NotAsked (nothing_asked end c.args.id
          (rw (← c.in_default.ensures.value) at (is.streams.streams c.args.id))),
      rw c.get_mut.follows.holds-at-none is,
    )

pub returns-in_err-to_head : goal.returns-in_err-to_head
returns-in_err-to_head c = λ values end is.
    let reads = answer_reads end c.args.id in
    let made = err_from_is_err_and c.from_residual.result c.from_residual.ensures.1 in
    rw (made.1, made.2) (
      end,
      replies_not (broken_by_head reads c.args.head.now) end c.args.id
          (begun reads c.args.head.now) _ (c.in_err-to_head.ensures values c.args.self.now end
          c.args.id is refl c.in-Some.ensures.value),
      as_lent c.args.self.now c.args.id c.in-Some.stream.now _ c.in-Some.ensures.value
          (c.get_mut.follows.holds c.in-Some.stream.now) values c.args.self.now.conn end is,
    )

pub returns-in_err-rest : goal.returns-in_err-rest
returns-in_err-rest c = λ values end is.
    let reads = answer_reads end c.args.id in
    let asks = c.in_ok-to_head.ensures values c.args.self.now end c.args.id is refl
    c.in-Some.ensures.value in
    let made = err_from_is_err_and c.from_residual-in_err-rest.result
    c.from_residual-in_err-rest.ensures.1 in
    rw (made.1, made.2) (
      end,
      breaks_reply (broken_by_head reads c.args.head.now) end c.args.id
          (begun reads c.args.head.now) _ asks.0 asks.1
          (rw asks.2 at c.in_err-rest.ensures.err),
      as_lent c.args.self.now c.args.id c.in-Some.stream.now _ c.in-Some.ensures.value
          (c.get_mut.follows.holds c.in-Some.stream.now) values c.args.self.now.conn end is,
    )

pub returns-in_err-fields : goal.returns-in_err-fields
returns-in_err-fields c = λ values end is.
    let reads = answer_reads end c.args.id in
    let head = c.args.head.now in
    let said = begun reads head in
    let asks = c.in_ok-to_head.ensures values c.args.self.now end c.args.id is refl
    c.in-Some.ensures.value in
    let made = err_from_is_err_and c.from_residual-in_err-fields.result
    c.from_residual-in_err-fields.ensures.1 in
    let refusal = c.in_err-fields.field-0.0 in
    let act = SendFields c.args.id head false in
    let answers = c.in_err-fields.ensures.answers values end.log is.streams.conn in
    let typed = fields_typed c.args.id head false (omega (arith, c.ranges.id))
    c.in_err-fields.ensures.octets in
    rw (made.1, made.2) (
      end_with_log end (with_call end.log act (Refused refusal)),
      refuses_reply (broken_by_head reads head) end c.args.id said _ refusal asks.0 asks.1
          (rw asks.2 at c.in_ok-rest.ensures.ok.0)
          (refuses_fitting end.log act said.message refusal (begun_fits reads head)
          (refused_so end.log act refusal (λ same. cc) answers.0))
          (unchanged_by end act refusal typed tt answers.0),
      as_lent c.args.self.now c.args.id c.in-Some.stream.now _ c.in-Some.ensures.value
          (c.get_mut.follows.holds c.in-Some.stream.now) values c.fields.new.self _
          (called_as values c.args.self.now (record c.args.self.now { conn = c.fields.new.self })
          end act (Refused refusal) is answers.0 answers.1 refl refl refl
          (λ i. refused_tokens i act refusal) (λ i wrong. cc)
          (λ i. refused_fields_keep i c.args.id head false refusal)),
    )

pub returns : goal.returns
returns c = λ values end is.
    let reads = answer_reads end c.args.id in
    let head = c.args.head.now in
    let said = begun reads head in
    let id = c.args.id in
    let asks = c.in_ok-to_head.ensures values c.args.self.now end c.args.id is refl
    c.in-Some.ensures.value in
    let answers = c.in_ok-fields.ensures.answers values end.log is.streams.conn in
    let after = end_with_said end (answered_with id said) Done id said in
    let rest = c.in_ok-rest.rest in
    let stream = c.in-Some.stream.now in
    let gives = given_lent c.args.self.now id stream _ c.in-Some.ensures.value c.fields.new.self
    (outgoings.Open rest) (λ waiting wrong. cc)
    (c.get_mut.follows.holds (given_stream (outgoings.Open rest) stream)) in (
      after,
      may_reply (broken_by_head reads head) end id said asks.0 asks.1
          (rw asks.2 at c.in_ok-rest.ensures.ok.0) (begun_fits reads head) answers.0,
      respond_waits values c.args.self.now (record c.args.self.now { conn = c.fields.new.self })
          _ end id said (outgoings.Open rest) refl is
          (record {
            asked = asks.0;
            unsaid = asks.1;
            fits = begun_fits reads head;
            answers = answers.0;
            conn = answers.1;
            role = refl;
            streams = refl;
            spans = refl;
          }) gives
          (left_of_begun after id reads head rest (rw asks.2 at c.in_ok-rest.ensures.ok.1)),
    )
