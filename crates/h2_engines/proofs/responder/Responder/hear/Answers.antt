-- By the lemmas on a call of `take`.
use Rattle.h2_engines.proofs.Names.{inl, inr, arith, err_from_is_err_and}
use Rattle.h2_engines.proofs.ResponderHears.{hears_nothing, hears_event, hears_lost, hears_fault}
use Rattle.h2_engines.proofs.responder.Responder.hear.Goals.{then-used-piece, else-used-piece}
use Rattle.h2_engines.proofs.responder.Responder.hear.Goals as goal

pub returns-after-used-piece-clause-hears : goal.returns-after-used-piece-clause-hears
returns-after-used-piece-clause-hears c =
    hears_nothing c.args.self.now.server.end c.take.follows.lender-at-none.end
    c.args.self.now.requests c.args.piece.now c.in_ok-taken.taken c.if-used-piece.next c.in-None.is
    (elim c.if-used-piece.branch [
      | then-used-piece w ↦ inl w.next-is
      | else-used-piece w ↦ inr w.next-is
    ])
    (λ done. elim c.if-used-piece.branch [
      | then-used-piece w ↦ let same = w.next-is in cc
      | else-used-piece w ↦ omega
          (arith, (rw c.in_ok-taken.ensures.ok at c.take.ensures.used), w.if-used-piece.false)
    ])
    (rw c.in_ok-taken.ensures.ok at c.take.follows.holds-at-none)

pub returns-in_ok-next-in-Some-clause-hears : goal.returns-in_ok-next-in-Some-clause-hears
returns-in_ok-next-in-Some-clause-hears c =
    hears_event c.args.self.now.server.end c.take.follows.lender-at-none.end
    c.args.self.now.requests c.note.new.self c.args.piece.now c.in_ok-taken.taken c.in-Some.event
    c.in_ok-next-in-Some.next c.in-Some.is c.in_ok-next-in-Some.ensures
    (rw c.in_ok-taken.ensures.ok at c.take.follows.holds-at-none)

pub returns-in_err-next-in-Some-clause-hears : goal.returns-in_err-next-in-Some-clause-hears
returns-in_err-next-in-Some-clause-hears c =
    let answer = err_from_is_err_and c.from_residual-in_err-next-in-Some.result
    c.from_residual-in_err-next-in-Some.ensures.1 in
    rw (answer.1, answer.2) (hears_lost c.args.self.now.server.end
    c.take.follows.lender-at-none.end c.args.self.now.requests c.note.new.self c.args.piece.now
    c.in_ok-taken.taken (rw c.in_ok-taken.ensures.ok at c.take.follows.holds-at-none))

pub returns-in_err-taken-clause-hears : goal.returns-in_err-taken-clause-hears
returns-in_err-taken-clause-hears c =
    let answer = err_from_is_err_and c.from_residual.result c.from_residual.ensures.1 in
    let (fault, failed, ends) = c.in_err-taken.ensures.err in
    rw (answer.1, answer.2, ends)
    (hears_fault c.args.self.now.server.end c.take.follows.lender-at-none.end
    c.args.self.now.requests c.args.self.now.requests c.args.piece.now fault
    (rw failed at c.take.follows.holds-at-none))
