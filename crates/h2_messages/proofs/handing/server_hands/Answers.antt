-- By the lemmas on a call of `take`.
use Rattle.h2_messages.proofs.CallLemmas.{hands_took, hands_fault}
use Rattle.h2_messages.proofs.handing.server_hands.Goals as goal

pub returns-in_ok-unwritten-in-Ok-clause-hands : goal.returns-in_ok-unwritten-in-Ok-clause-hands
returns-in_ok-unwritten-in-Ok-clause-hands g c =
    hands_took c.args.server.now.end c.take.follows.lender-at-none.end c.args.piece.now
    c.in-Ok.taken c.in_ok-unwritten-in-Ok.unwritten _ _ c.in_ok-unwritten-in-Ok.ensures.unwritten
    c.in_ok-unwritten-in-Ok.ensures.written (rw c.in-Ok.is at c.take.follows.holds-at-none)

pub returns-in-Err-clause-hands : goal.returns-in-Err-clause-hands
returns-in-Err-clause-hands g c =
    hands_fault c.args.server.now.end c.take.follows.lender-at-none.end c.args.piece.now
    c.in-Err.fault _ (rw c.in-Err.is at c.take.follows.holds-at-none)
