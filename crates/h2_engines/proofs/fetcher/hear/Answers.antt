-- By the lemmas on what a client hears.
use Rattle.h2_engines.proofs.Names.{◌≡◌, refl, ap, arith, inl, inr, err_from_is_err_and}
use Rattle.h2_engines.proofs.Names.{event_handed, if◌then◌else◌, ErrsFetching}
use Rattle.h2_engines.proofs.FetcherHears.{heard_nothing, heard_part, heard_error, heard_fault}
use Rattle.h2_engines.proofs.FetcherHears.{errs_reset}
use Rattle.h2_engines.proofs.fetcher.hear.Goals.{then-is_whole, else-is_whole}
use Rattle.h2_engines.specs.declared.request.Next.TheVariants as goes
use Rattle.h2_engines.proofs.fetcher.hear.Goals as goal

pub returns-in-Some-Reset-clause-hears : goal.returns-in-Some-Reset-clause-hears
unfolding ErrsFetching
returns-in-Some-Reset-clause-hears c =
    let is = rw c.in-Some-Reset.is at c.in-Some-Reset.field-0-is in
    heard_error c.args.client.now.end c.take.follows.lender-at-none.end c.args.stream
    c.args.coming.now c.args.coming.now c.args.piece.now c.in_ok-taken.taken _ _ c.in-Some-Reset.is
    (errs_reset c.in_ok-taken.taken.used c.in-Some-Reset.code _ (ap event_handed is)
    c.if-id-stream.true) (rw c.in_ok-taken.ensures.ok at c.take.follows.holds-at-none)

pub returns-in-Some-Unprocessed-clause-hears : goal.returns-in-Some-Unprocessed-clause-hears
unfolding ErrsFetching
returns-in-Some-Unprocessed-clause-hears c =
    let is = rw c.in-Some-Unprocessed.is at c.in-Some-Unprocessed.field-0-is in
    heard_error c.args.client.now.end c.take.follows.lender-at-none.end c.args.stream
    c.args.coming.now c.args.coming.now c.args.piece.now c.in_ok-taken.taken _ _
    c.in-Some-Unprocessed.is
    (inr (inr (rw (is, c.if-id-stream-2.true) refl, rw c.number.ensures refl)))
    (rw c.in_ok-taken.ensures.ok at c.take.follows.holds-at-none)

pub returns-in_err-is_whole-in-Some-clause-hears : goal.returns-in_err-is_whole-in-Some-clause-hears
unfolding ErrsFetching
returns-in_err-is_whole-in-Some-clause-hears c =
    let answer = err_from_is_err_and
    c.from_residual-in_err-is_whole-in-Some.result
    c.from_residual-in_err-is_whole-in-Some.ensures.1 in
    rw (answer.1, answer.2) (heard_error c.args.client.now.end
    c.take.follows.lender-at-none.end c.args.stream c.args.coming.now c.note.new.self
    c.args.piece.now c.in_ok-taken.taken c.in-Some.event _ c.in-Some.is
    (inl (refl, c.in_err-is_whole-in-Some.ensures.err))
    (rw c.in_ok-taken.ensures.ok at c.take.follows.holds-at-none))

pub returns-then-used-piece-clause-hears : goal.returns-then-used-piece-clause-hears
returns-then-used-piece-clause-hears c =
    heard_nothing c.args.client.now.end c.take.follows.lender-at-none.end c.args.stream
    c.args.coming.now c.args.piece.now c.in_ok-taken.taken goes.Again (cc) (inl refl)
    (λ done. cc) (rw c.in_ok-taken.ensures.ok at c.take.follows.holds-at-none)

pub returns-else-used-piece-clause-hears : goal.returns-else-used-piece-clause-hears
returns-else-used-piece-clause-hears c =
    heard_nothing c.args.client.now.end c.take.follows.lender-at-none.end c.args.stream
    c.args.coming.now c.args.piece.now c.in_ok-taken.taken goes.Done (cc) (inr refl)
    (λ done. omega
    (arith, (rw c.in_ok-taken.ensures.ok at c.take.ensures.used), c.if-used-piece.false))
    (rw c.in_ok-taken.ensures.ok at c.take.follows.holds-at-none)

pub returns-after-is_whole-clause-hears : goal.returns-after-is_whole-clause-hears
returns-after-is_whole-clause-hears c =
    let next : c.if-is_whole.next
    ≡ (if c.in_ok-is_whole-in-Some.is_whole then goes.Whole else goes.Again) =
    elim c.if-is_whole.branch [
      | then-is_whole w ↦ rw w.if-is_whole.true w.next-is
      | else-is_whole w ↦ rw w.if-is_whole.false w.next-is
    ] in
    heard_part c.args.client.now.end c.take.follows.lender-at-none.end c.args.stream
    c.args.coming.now c.note.new.self c.args.piece.now c.in_ok-taken.taken c.in-Some.event
    c.in_ok-is_whole-in-Some.is_whole c.if-is_whole.next c.in-Some.is next
    c.in_ok-is_whole-in-Some.ensures.notes
    (rw c.in_ok-taken.ensures.ok at c.take.follows.holds-at-none)

pub returns-in_err-taken-clause-hears : goal.returns-in_err-taken-clause-hears
returns-in_err-taken-clause-hears c =
    let answer = err_from_is_err_and c.from_residual.result c.from_residual.ensures.1 in
    let (fault, failed, ends) = c.in_err-taken.ensures.err in
    rw (answer.1, answer.2)
    (heard_fault c.args.client.now.end c.take.follows.lender-at-none.end c.args.stream
    c.args.coming.now c.args.coming.now c.args.piece.now fault ends
    (rw failed at c.take.follows.holds-at-none))
