-- By the lemmas on a call of `take`.
use Rattle.h2_joined.proofs.CodeTakes.{took_nothing, took_event, took_fault}
use Rattle.h2_joined.proofs.octets.client_takes.Goals as goal

pub returns-in-None-clause-takes : goal.returns-in-None-clause-takes
returns-in-None-clause-takes c =
    took_nothing c.args.client.now.end c.take.follows.lender-at-none.end c.args.store.now
    c.args.piece.now c.in-Ok.taken c.in-None.is (rw c.in-Ok.is at c.take.follows.holds-at-none)

pub returns-in-Some-clause-takes : goal.returns-in-Some-clause-takes
returns-in-Some-clause-takes c =
    took_event c.args.client.now.end c.take.follows.lender-at-none.end c.args.store.now
    c.keep.new.self c.args.piece.now c.in-Ok.taken c.in-Some.event c.in-Some.is c.keep.ensures
    (rw c.in-Ok.is at c.take.follows.holds-at-none)

pub returns-in-Err-clause-takes : goal.returns-in-Err-clause-takes
returns-in-Err-clause-takes c =
    took_fault c.args.client.now.end c.take.follows.lender-at-none.end c.args.store.now
    c.args.piece.now c.in-Err.fault (rw c.in-Err.is at c.take.follows.holds-at-none)
