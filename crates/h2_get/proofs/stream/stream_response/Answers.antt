-- By the lemmas on how a response is printed as it comes.
use Rattle.std.proofs.Common.{sym, ◌∙◌}
use Rattle.std.proofs.lemmas.Result.{err_from_is_err_and}
use Rattle.h2_args.specs.Words.{asked_by}
use Rattle.h2_get.proofs.StreamLemmas.{streams_ended, streams_failure, streams_nothing}
use Rattle.h2_get.proofs.StreamLemmas.{streams_unprinted, streams_unwritten, streams_whole}
use Rattle.h2_get.proofs.stream.stream_response.Goals as goal

pub returns-in-Err : goal.returns-in-Err
returns-in-Err g c =
    streams_nothing (asked_by c.args.options.now) _ _ c.args.fetch.now _ _ c.in-Err.error
    c.in-Err.ensures.stream c.in-Err.ensures.head

pub returns-in_err-print_head : goal.returns-in_err-print_head
returns-in_err-print_head g c =
    let answer = err_from_is_err_and c.from_residual.result c.from_residual.ensures.1 in
    rw (answer.1, answer.2, c.in_err-print_head.ensures.err)
    (streams_unprinted (asked_by c.args.options.now) _ _ c.args.fetch.now c.next_head.new.fetch
    c.in-Ok.head c.in-Ok.ensures.stream c.in-Ok.ensures.head _ _)

pub returns-then-is_failure : goal.returns-then-is_failure
returns-then-is_failure g c =
    streams_failure (asked_by c.args.options.now) _ _ c.args.fetch.now c.next_head.new.fetch
    c.in-Ok.head c.in-Ok.ensures.stream c.in-Ok.ensures.head c.fetched_with-fetched.result
    c.fetched_with-fetched.ensures.head _ _ c.in_ok-print_head.ensures.head
    (sym c.is_failure.ensures ∙ c.if-is_failure.true)

pub returns-in_err-trailers : goal.returns-in_err-trailers
returns-in_err-trailers g c =
    let words = asked_by c.args.options.now in
    let answer = err_from_is_err_and c.from_residual-in_err-trailers.result
    c.from_residual-in_err-trailers.ensures.1 in
    rw (answer.1, answer.2)
    (streams_ended words _ _ c.args.fetch.now c.next_head.new.fetch c.in-Ok.head
    c.in-Ok.ensures.stream c.in-Ok.ensures.head c.fetched_with-fetched.result
    c.fetched_with-fetched.ensures.head _ _ c.in_ok-print_head.ensures.head _ _
    c.in_err-trailers.ensures.stream _ _
    c.in_err-trailers.ensures.rest)

pub returns-in_err-print_last : goal.returns-in_err-print_last
returns-in_err-print_last g c =
    let words = asked_by c.args.options.now in
    let answer = err_from_is_err_and c.from_residual-in_err-print_last.result
    c.from_residual-in_err-print_last.ensures.1 in
    rw (answer.1, answer.2, c.in_err-print_last.ensures.err)
    (streams_unwritten words _ _ c.args.fetch.now c.next_head.new.fetch c.in-Ok.head
    c.in-Ok.ensures.stream c.in-Ok.ensures.head c.fetched_with-fetched.result
    c.fetched_with-fetched.ensures.head _ _ c.in_ok-print_head.ensures.head _ _
    c.in_ok-trailers.ensures.stream _ _ c.in_ok-trailers.trailers
    c.in_ok-trailers.ensures.rest)

pub returns : goal.returns
returns g c =
    let words = asked_by c.args.options.now in
    streams_whole words _ _ c.args.fetch.now c.next_head.new.fetch c.in-Ok.head
    c.in-Ok.ensures.stream c.in-Ok.ensures.head c.fetched_with-fetched.result
    c.fetched_with-fetched.ensures.head _ _ c.in_ok-print_head.ensures.head _ _
    c.in_ok-trailers.ensures.stream _ _ c.in_ok-trailers.trailers
    (sym c.is_failure.ensures ∙ c.if-is_failure.false)
    c.in_ok-trailers.ensures.rest
    c.in_ok-print_last.ensures.trailers
