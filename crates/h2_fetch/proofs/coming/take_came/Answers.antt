-- By the lemmas on what a client takes.
use Rattle.h2_engines.proofs.Names.{arith, err_from_is_err_and}
use Rattle.h2_fetch.proofs.SeveralTaking.{came_fault, came_nothing, came_some, came_unkept}
use Rattle.h2_fetch.specs.declared.coming.CameNext.TheVariants as nexts
use Rattle.h2_fetch.proofs.coming.take_came.Goals as goal

pub returns-then-used-piece-clause-takes : goal.returns-then-used-piece-clause-takes
returns-then-used-piece-clause-takes c =
    came_nothing c.args.client.now.end c.take.follows.lender-at-none.end
    c.args.piece.now c.in_ok-taken.taken nexts.Again (cc) tt (λ done. absurd (cc))
    (rw c.in_ok-taken.ensures.ok at c.take.follows.holds-at-none)

pub returns-else-used-piece-clause-takes : goal.returns-else-used-piece-clause-takes
returns-else-used-piece-clause-takes c =
    came_nothing c.args.client.now.end c.take.follows.lender-at-none.end
    c.args.piece.now c.in_ok-taken.taken nexts.Done (cc) tt (λ done. omega
    (arith, (rw c.in_ok-taken.ensures.ok at c.take.ensures.used), c.if-used-piece.false))
    (rw c.in_ok-taken.ensures.ok at c.take.follows.holds-at-none)

pub returns-in_err-next-in-Some-clause-takes : goal.returns-in_err-next-in-Some-clause-takes
returns-in_err-next-in-Some-clause-takes c =
    let answer = err_from_is_err_and
    c.from_residual-in_err-next-in-Some.result
    c.from_residual-in_err-next-in-Some.ensures.1 in
    rw (answer.1, answer.2) (came_unkept c.args.client.now.end
    c.take.follows.lender-at-none.end c.args.piece.now c.in_ok-taken.taken
    c.in-Some.event c.in-Some.is
    (rw c.in_ok-taken.ensures.ok at c.take.follows.holds-at-none))

pub returns-in_ok-next-in-Some-clause-takes : goal.returns-in_ok-next-in-Some-clause-takes
returns-in_ok-next-in-Some-clause-takes c =
    came_some c.args.client.now.end c.take.follows.lender-at-none.end
    c.args.piece.now c.in_ok-taken.taken c.in-Some.event c.in_ok-next-in-Some.next c.in-Some.is
    c.in_ok-next-in-Some.ensures.more c.in_ok-next-in-Some.ensures.hands
    (rw c.in_ok-taken.ensures.ok at c.take.follows.holds-at-none)

pub returns-in_err-taken-clause-takes : goal.returns-in_err-taken-clause-takes
returns-in_err-taken-clause-takes c =
    let answer = err_from_is_err_and c.from_residual.result c.from_residual.ensures.1 in
    let (fault, failed, ends) = c.in_err-taken.ensures.err in
    rw (answer.1, answer.2)
    (came_fault c.args.client.now.end c.take.follows.lender-at-none.end
    c.args.piece.now fault ends (rw failed at c.take.follows.holds-at-none))
