use Rattle.std.proofs.Common.{ap}
use Rattle.std.proofs.lemmas.Result.{err_from_is_err_and}
use Rattle.std.specs.Prelude.{option_map}
use Rattle.h2_ends.specs.Loans.{event_handed}
use Rattle.h2_server.specs.Exchanges.{handling_of}
use Rattle.h2_server.specs.declared.stop.Stop.TheVariants.{Failed}
use Rattle.h2_server.proofs.StepsMade.{failed_handles, told_handles, took_handles}
use Rattle.h2_server.proofs.StepsMade.{untold_handles}
use Rattle.h2_server.proofs.exchanges.Exchanges.hear.Goals as goal

pub returns-in-Err-clause-err : goal.returns-in-Err-clause-err
returns-in-Err-clause-err g c =
    failed_handles (handling_of c.args.self.now) c.args.piece.now _ Failed
    (rw c.in-Err.is at c.take.follows.holds-at-none)

pub returns-in_err-due-in-Some-clause-err : goal.returns-in_err-due-in-Some-clause-err
returns-in_err-due-in-Some-clause-err g c =
    let answer = err_from_is_err_and c.from_residual.result c.from_residual.ensures.1 in
    rw answer.1 (rw answer.2
    (untold_handles c.args.piece.now c.in-Ok.taken.used (event_handed c.in-Some.event)
    (rw c.in-Some.is at (rw c.in-Ok.is at c.take.follows.holds-at-none))
    c.in_err-due-in-Some.ensures.err))

pub returns-in_ok-due-in-Some-clause-ok : goal.returns-in_ok-due-in-Some-clause-ok
returns-in_ok-due-in-Some-clause-ok g c =
    told_handles c.args.piece.now c.in-Ok.taken.used (event_handed c.in-Some.event)
    (rw c.in-Some.is at (rw c.in-Ok.is at c.take.follows.holds-at-none))
    c.in_ok-due-in-Some.ensures.ok

pub returns-in-None-clause-ok : goal.returns-in-None-clause-ok
returns-in-None-clause-ok g c =
    took_handles (handling_of c.args.self.now) c.args.piece.now c.in-Ok.taken
    (rw c.in-Ok.is at c.take.follows.holds-at-none)
    (ap (λ event. option_map event_handed event) c.in-None.is)
