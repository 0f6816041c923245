-- By the lemmas on an end that has opened a stream.
use Rattle.h2_ends.proofs.Names.{refl, Number, Requests, begun, end_with_said}
use Rattle.h2_ends.proofs.Names.{broken_by_head, err_from_is_err_and, opened_with}
use Rattle.h2_ends.proofs.RequestHeads.{request_given, may_ask, breaks_asking, refuses_asking}
use Rattle.h2_ends.proofs.PartBegins.{begun_fits, left_of_begun}
use Rattle.h2_ends.specs.declared.outgoing.Outgoing.TheVariants as outgoings
use Rattle.h2_ends.proofs.end.End.begin.Goals as goal

pub returns-in_err-rest : goal.returns-in_err-rest
returns-in_err-rest c = λ values end is.
    let head = c.args.head.now in
    let made = err_from_is_err_and c.from_residual.result c.from_residual.ensures.1 in
    rw (made.1, made.2) (
      end,
      breaks_asking (broken_by_head Requests head) end (begun Requests head) _
          c.in_err-rest.ensures.err,
      is,
    )

pub returns-in_err-id : goal.returns-in_err-id
returns-in_err-id c = λ values end is.
    let head = c.args.head.now in
    let made = err_from_is_err_and c.from_residual-in_err-id.result
    c.from_residual-in_err-id.ensures.1 in
    let refuses = c.in_err-id.ensures values end (begun Requests head) is refl refl
    (begun_fits Requests head) in
    rw (made.1, made.2) (
      refuses.0,
      refuses_asking (broken_by_head Requests head) end refuses.0 (begun Requests head) _
          c.in_ok-rest.ensures.ok.0 refuses.1 refuses.2,
      refuses.3,
    )

pub returns : goal.returns
returns c = λ values end is.
    let head = c.args.head.now in
    let said = begun Requests head in
    let id = c.in_ok-id.id in
    let opens = c.in_ok-id.ensures values end said is refl refl (begun_fits Requests head) in
    let after = end_with_said end (opened_with said) (Number id) id said in (
      after,
      may_ask values (broken_by_head Requests head) end said c.args.self.now c.open_with.new.self
          id c.in_ok-rest.ensures.ok.0 opens,
      request_given values c.args.self.now c.open_with.new.self c.keep.new.self end id said
          (outgoings.Open c.in_ok-rest.rest) is opens c.keep.ensures
          (left_of_begun after id Requests head c.in_ok-rest.rest c.in_ok-rest.ensures.ok.1),
    )
