-- A call of `take` is a step of each log that the parts represent: by the lemmas on each.
use Rattle.h2_conn.proofs.Names.{◌≡◌, ◌∙◌, sym, ap, None, [], err_from_is_err_and, Failed}
use Rattle.h2_laws_end.proofs.Promised.{never_out_of_memory}
use Rattle.h2_conn.proofs.TakeParts.{failed_again, unprocessed_taken, unprocessed_lacks}
use Rattle.h2_conn.proofs.TakeSound.{closed_sound}
use Rattle.h2_conn.proofs.PartsFit.{fit_of}
use Rattle.h2_conn.proofs.conn.Conn.advance.Goals as goal

pub returns-in-Some-clause-takes : goal.returns-in-Some-clause-takes
returns-in-Some-clause-takes c = λ octets body values log p.
    failed_again values _ _ log c.args.piece.now c.in-Some.code p
    (sym c.failed.ensures ∙ c.in-Some.is)

pub invariant_of-self : goal.invariant_of-self
invariant_of-self c =
    let up : c.args.self.now.end.failed ≡ None = sym c.failed.ensures ∙ c.in_default.is in
    record {
      sound = λ going.
          closed_sound c.close_unprocessed.result _ _ c.in-Some-unprocessed.id
          (c.args.self.now.sound up) up c.in-Some-unprocessed.ensures.number
          c.in-Some-unprocessed.ensures.some c.close_unprocessed.ensures.ok
          c.close_unprocessed.ensures.err going;
      cuts = λ going. c.args.self.now.cuts up;
    }

pub invariant_of-self-in_default-close_unprocessed :
    goal.invariant_of-self-in_default-close_unprocessed
invariant_of-self-in_default-close_unprocessed c =
    let up : c.args.self.now.end.failed ≡ None = sym c.failed.ensures ∙ c.in_default.is in
    record {
      sound = λ going.
          closed_sound c.close_unprocessed.result _ _ c.in-Some-unprocessed.id
          (c.args.self.now.sound up) up c.in-Some-unprocessed.ensures.number
          c.in-Some-unprocessed.ensures.some c.close_unprocessed.ensures.ok
          c.close_unprocessed.ensures.err going;
      cuts = λ going. c.args.self.now.cuts up;
    }

pub returns-in-Some-unprocessed-clause-takes : goal.returns-in-Some-unprocessed-clause-takes
returns-in-Some-unprocessed-clause-takes c = λ octets body values log p.
    unprocessed_taken values _ _ _ log c.args.piece.now c.in-Some-unprocessed.id p
    (sym c.failed.ensures ∙ c.in_default.is) c.in-Some-unprocessed.ensures.number
    c.in-Some-unprocessed.ensures.some c.in_default-close_unprocessed.ensures.ok

pub returns-in-Err-clause-takes : goal.returns-in-Err-clause-takes
returns-in-Err-clause-takes c = λ octets body values log p.
    unprocessed_lacks values _ _ _ log c.args.piece.now
    c.in-Some-unprocessed.id c.in-Err.code (fit_of values _ _ _ _ log p)
    (sym c.failed.ensures ∙ c.in_default.is) c.in-Some-unprocessed.ensures.number
    c.in-Some-unprocessed.ensures.some c.in-Err.ensures.err

-- By the law on frames that take no memory.
pub returns-in-Err-clause-promised : goal.returns-in-Err-clause-promised
returns-in-Err-clause-promised c = λ values log p promised.
    let code = c.in-Err.code in
    let taken = unprocessed_lacks values _ _ _ log c.args.piece.now
    c.in-Some-unprocessed.id code (fit_of values _ _ _ _ log p)
    (sym c.failed.ensures ∙ c.in_default.is) c.in-Some-unprocessed.ensures.number
    c.in-Some-unprocessed.ensures.some c.in-Err.ensures.err in
    (λ is. never_out_of_memory log taken.0 c.args.piece.now (Failed code)
    taken.1 promised (ap Failed is))

pub returns-in_err-progress-clause-takes : goal.returns-in_err-progress-clause-takes
returns-in_err-progress-clause-takes c = λ octets body values log p.
    let fault = err_from_is_err_and c.from_residual.result
    c.from_residual.ensures.1 in
    rw (fault.1, fault.2) (c.in_err-progress.ensures.takes octets tt values log p)

pub returns-in_err-progress-clause-promised : goal.returns-in_err-progress-clause-promised
returns-in_err-progress-clause-promised c = λ values log p promised.
    let fault = err_from_is_err_and c.from_residual.result
    c.from_residual.ensures.1 in
    let code = c.in_err-progress.field-0.0 in
    let taken = c.in_err-progress.ensures.takes [] tt values log p in
    rw (fault.1, fault.2) (λ is. never_out_of_memory log taken.0 c.args.piece.now (Failed code)
    taken.1 promised (ap Failed is))
