-- By the lemmas on what a client takes.
use Rattle.h2_engines.proofs.Names.{refl, ap, arith, inl, inr, err_from_is_err_and}
use Rattle.h2_engines.proofs.Names.{event_handed, ErrsFetching}
use Rattle.h2_engines.proofs.FetcherHears.{errs_reset}
use Rattle.h2_fetch.proofs.Taking.{took_nothing, took_part, took_error, took_fault}
use Rattle.h2_fetch.specs.declared.fetch.PartNext.TheVariants as nexts
use Rattle.h2_fetch.proofs.fetch.take_part.Goals as goal

pub returns-in-Some-Reset-clause-takes : goal.returns-in-Some-Reset-clause-takes
unfolding ErrsFetching
returns-in-Some-Reset-clause-takes c =
    let is = rw c.in-Some-Reset.is at c.in-Some-Reset.field-0-is in
    took_error c.args.client.now.end c.take.follows.lender-at-none.end c.args.stream
    c.args.piece.now c.in_ok-taken.taken _ _ c.in-Some-Reset.is
    (errs_reset c.in_ok-taken.taken.used c.in-Some-Reset.code _ (ap event_handed is)
    c.if-id-stream.true) (rw c.in_ok-taken.ensures.ok at c.take.follows.holds-at-none)

pub returns-in-Some-Unprocessed-clause-takes : goal.returns-in-Some-Unprocessed-clause-takes
unfolding ErrsFetching
returns-in-Some-Unprocessed-clause-takes c =
    let is = rw c.in-Some-Unprocessed.is at c.in-Some-Unprocessed.field-0-is in
    took_error c.args.client.now.end c.take.follows.lender-at-none.end c.args.stream
    c.args.piece.now c.in_ok-taken.taken _ _ c.in-Some-Unprocessed.is
    (inr (inr (rw (is, c.if-id-stream-2.true) refl, rw c.number.ensures refl)))
    (rw c.in_ok-taken.ensures.ok at c.take.follows.holds-at-none)

pub returns-then-used-piece-clause-takes : goal.returns-then-used-piece-clause-takes
returns-then-used-piece-clause-takes c =
    took_nothing c.args.client.now.end c.take.follows.lender-at-none.end c.args.stream
    c.args.piece.now c.in_ok-taken.taken nexts.Again (cc) refl (λ done. absurd (cc))
    (rw c.in_ok-taken.ensures.ok at c.take.follows.holds-at-none)

pub returns-else-used-piece-clause-takes : goal.returns-else-used-piece-clause-takes
returns-else-used-piece-clause-takes c =
    took_nothing c.args.client.now.end c.take.follows.lender-at-none.end c.args.stream
    c.args.piece.now c.in_ok-taken.taken nexts.Done (cc) refl (λ done. omega
    (arith, (rw c.in_ok-taken.ensures.ok at c.take.ensures.used), c.if-used-piece.false))
    (rw c.in_ok-taken.ensures.ok at c.take.follows.holds-at-none)

pub returns-in_err-part-in-Some-clause-takes : goal.returns-in_err-part-in-Some-clause-takes
unfolding ErrsFetching
returns-in_err-part-in-Some-clause-takes c =
    let answer = err_from_is_err_and
    c.from_residual-in_err-part-in-Some.result
    c.from_residual-in_err-part-in-Some.ensures.1 in
    rw (answer.1, answer.2) (took_error c.args.client.now.end
    c.take.follows.lender-at-none.end c.args.stream c.args.piece.now c.in_ok-taken.taken
    c.in-Some.event _ c.in-Some.is (inl (refl, c.in_err-part-in-Some.ensures.err))
    (rw c.in_ok-taken.ensures.ok at c.take.follows.holds-at-none))

pub returns-in_ok-part-in-Some-clause-takes : goal.returns-in_ok-part-in-Some-clause-takes
returns-in_ok-part-in-Some-clause-takes c =
    took_part c.args.client.now.end c.take.follows.lender-at-none.end c.args.stream
    c.args.piece.now c.in_ok-taken.taken c.in-Some.event c.next_of-next.result c.in-Some.is
    c.next_of-next.ensures.more
    (rw c.next_of-next.ensures.part c.in_ok-part-in-Some.ensures.hands)
    (rw c.in_ok-taken.ensures.ok at c.take.follows.holds-at-none)

pub returns-in_err-taken-clause-takes : goal.returns-in_err-taken-clause-takes
returns-in_err-taken-clause-takes c =
    let answer = err_from_is_err_and c.from_residual.result c.from_residual.ensures.1 in
    let (fault, failed, ends) = c.in_err-taken.ensures.err in
    rw (answer.1, answer.2)
    (took_fault c.args.client.now.end c.take.follows.lender-at-none.end c.args.stream
    c.args.piece.now fault ends (rw failed at c.take.follows.holds-at-none))
