-- By the lemmas on what is gathered.
use Rattle.std.proofs.Common.{refl}
use Rattle.std.proofs.lemmas.Result.{err_from_is_err_and}
use Rattle.h2_get.proofs.GatherLemmas.{gathers_no_rest, gathers_nothing, gathers_whole}
use Rattle.h2_get.proofs.gathering.gather.Goals as goal

pub returns-in-Err-clause-gathers : goal.returns-in-Err-clause-gathers
returns-in-Err-clause-gathers g c = gathers_nothing _ _ _ _ c.in-Err.error c.in-Err.ensures.head

pub returns-in_err-trailers-clause-gathers : goal.returns-in_err-trailers-clause-gathers
returns-in_err-trailers-clause-gathers g c =
    let answer = err_from_is_err_and c.from_residual.result c.from_residual.ensures.1 in
    rw (answer.1, answer.2)
    (gathers_no_rest _ _ _ c.args.fetch.now c.next_head.new.fetch c.gather_rest.new.fetch
    c.in-Ok.head c.in-Ok.ensures.stream c.in_err-trailers.ensures.stream c.in-Ok.ensures.head _ _
    (rw c.new-body.ensures.items at c.in_err-trailers.ensures.rest))

pub returns-clause-gathers : goal.returns-clause-gathers
returns-clause-gathers g c =
    gathers_whole _ _ _ c.args.fetch.now c.next_head.new.fetch c.gather_rest.new.fetch
    c.in-Ok.head c.in-Ok.ensures.stream c.in_ok-trailers.ensures.stream c.in-Ok.ensures.head _
    c.in_ok-trailers.trailers _ refl refl refl c.new.ensures.items
    (rw c.new-body.ensures.items at c.in_ok-trailers.ensures.rest)
