-- By the lemmas on how a response is printed as it comes.
use Rattle.std.proofs.Common.{sym, ◌∙◌}
use Rattle.std.proofs.lemmas.Result.{err_from_is_err_and}
use Rattle.h2_args.specs.Words.{asked_by}
use Rattle.h2_get.proofs.SeveralPrinting.{body_unprinted, failed_never, head_alone, head_unprinted}
use Rattle.h2_get.proofs.SeveralPrinting.{printed_first, printed_nothing, printed_whole}
use Rattle.h2_get.proofs.SeveralPrinting.{trailers_unprinted, unopened, whole_with_head}
use Rattle.h2_get.proofs.several.stream_on.Goals as goal
use goal.{then-is_failure-via-then-is_failure, then-is_failure-via-else-is_failure+then-end}

pub returns-in_err-print_opening-clause-streams : goal.returns-in_err-print_opening-clause-streams
returns-in_err-print_opening-clause-streams g c =
    let answer = err_from_is_err_and c.from_residual.result c.from_residual.ensures.1 in
    rw (answer.1, answer.2, c.in_err-print_opening.ensures.err)
    (unopened (asked_by c.args.options.now) c.args.is_first _ c.args.fetch.now c.args.id
    (g.W.Write.contents c.args.out.now) (g.W.Write.contents c.print_opening.new.out))

pub returns-in-Err-clause-streams : goal.returns-in-Err-clause-streams
returns-in-Err-clause-streams g c =
    printed_nothing (asked_by c.args.options.now) c.args.is_first _ _ c.args.fetch.now _ c.args.id
    _ _ c.in_ok-print_opening.ensures.opens c.in-Err.error c.in-Err.ensures.head

pub returns-in_err-print_head-clause-streams : goal.returns-in_err-print_head-clause-streams
returns-in_err-print_head-clause-streams g c =
    let answer = err_from_is_err_and c.from_residual-in_err-print_head.result
    c.from_residual-in_err-print_head.ensures.1 in
    rw (answer.1, answer.2, c.in_err-print_head.ensures.err)
    (head_unprinted (asked_by c.args.options.now) c.args.is_first _ _ c.args.fetch.now _ c.args.id
    _ _ c.in_ok-print_opening.ensures.opens c.in-Ok.head c.in-Ok.ensures.head
    (g.W.Write.contents c.print_head.new.out))

pub returns-then-is_failure-clause-streams : goal.returns-then-is_failure-clause-streams
returns-then-is_failure-clause-streams g c =
    elim c.then-is_failure.branch [
      | then-is_failure-via-then-is_failure w ↦
          head_alone (asked_by c.args.options.now) c.args.is_first _ _ c.args.fetch.now _ c.args.id
          _ _ c.in_ok-print_opening.ensures.opens c.in-Ok.head c.in-Ok.ensures.head
          c.fetched_with-fetched.result c.fetched_with-fetched.ensures.head _
          c.in_ok-print_head.ensures.head (sym c.is_failure.ensures ∙ w.if-is_failure.true)
      | then-is_failure-via-else-is_failure+then-end w ↦
          whole_with_head (asked_by c.args.options.now) c.args.is_first _ _ c.args.fetch.now _
          c.args.id _ _ c.in_ok-print_opening.ensures.opens c.in-Ok.head c.in-Ok.ensures.head
          c.fetched_with-fetched.result c.fetched_with-fetched.ensures.head _
          c.in_ok-print_head.ensures.head (sym c.is_failure.ensures ∙ w.if-is_failure.false)
          w.if-end.true
    ]

pub returns-in-Err-Link-clause-streams : goal.returns-in-Err-Link-clause-streams
returns-in-Err-Link-clause-streams g c =
    printed_first (asked_by c.args.options.now) c.args.is_first _ _ c.args.fetch.now
    c.head_on.new.fetch c.args.id _ _ c.in_ok-print_opening.ensures.opens c.in-Ok.head
    c.in-Ok.ensures.head c.fetched_with-fetched.result c.fetched_with-fetched.ensures.head _
    c.in_ok-print_head.ensures.head _ c.body_on.new.fetch c.requires.no_file _
    c.in-Err-Link.error (rw c.in-Err-Link.field-0-is at c.in-Err-Link.ensures.passes)

pub returns-in-Err-Link-clause-failures : goal.returns-in-Err-Link-clause-failures
returns-in-Err-Link-clause-failures g c =
    λ goes. (rw c.in-Err-Link.field-0-is at c.in-Err-Link.ensures.failures)
    ∙ failed_never _ c.in-Err-Link.error goes ∙ c.in-Ok.ensures.failures

pub returns-in-Err-Output-clause-streams : goal.returns-in-Err-Output-clause-streams
returns-in-Err-Output-clause-streams g c =
    body_unprinted (asked_by c.args.options.now) c.args.is_first _ _ c.args.fetch.now
    c.head_on.new.fetch c.args.id _ _ c.in_ok-print_opening.ensures.opens c.in-Ok.head
    c.in-Ok.ensures.head c.fetched_with-fetched.result c.fetched_with-fetched.ensures.head _
    c.in_ok-print_head.ensures.head _ c.body_on.new.fetch c.requires.no_file _
    (rw c.in-Err-Output.field-0-is at c.in-Err-Output.ensures.passes)

pub returns-in_err-print_last-clause-streams : goal.returns-in_err-print_last-clause-streams
returns-in_err-print_last-clause-streams g c =
    let answer = err_from_is_err_and c.from_residual-in_err-print_last.result
    c.from_residual-in_err-print_last.ensures.1 in
    rw (answer.1, answer.2, c.in_err-print_last.ensures.err)
    (trailers_unprinted (asked_by c.args.options.now) c.args.is_first _ _ c.args.fetch.now
    c.head_on.new.fetch c.args.id _ _ c.in_ok-print_opening.ensures.opens c.in-Ok.head
    c.in-Ok.ensures.head c.fetched_with-fetched.result c.fetched_with-fetched.ensures.head _
    c.in_ok-print_head.ensures.head _ c.body_on.new.fetch c.requires.no_file _
    (g.W.Write.contents c.print_last.new.out) c.in-Ok-body_on.trailers
    c.in-Ok-body_on.ensures.passes)

pub returns-clause-streams : goal.returns-clause-streams
returns-clause-streams g c =
    printed_whole (asked_by c.args.options.now) c.args.is_first _ _ c.args.fetch.now
    c.head_on.new.fetch c.args.id _ _ c.in_ok-print_opening.ensures.opens c.in-Ok.head
    c.in-Ok.ensures.head c.fetched_with-fetched.result c.fetched_with-fetched.ensures.head _
    c.in_ok-print_head.ensures.head _ c.body_on.new.fetch c.requires.no_file _
    _ c.in-Ok-body_on.trailers (sym c.is_failure.ensures ∙ c.if-is_failure.false) c.if-end.false
    c.in-Ok-body_on.ensures.passes c.in_ok-print_last.ensures.trailers
