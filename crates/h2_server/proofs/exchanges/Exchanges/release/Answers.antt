use Rattle.std.proofs.Common.{◌∙◌, refl}
use Rattle.h2_server.specs.Exchanges.{handling_of}
use Rattle.h2_server.proofs.CreditSteps.{all_up_to, begun_up_to, next_up_to, on_handles}
use Rattle.h2_server.proofs.CreditSteps.{up_to_handles}
use Rattle.h2_server.proofs.StepsMade.{then_handles}
use Rattle.h2_server.proofs.exchanges.Exchanges.release.Goals as goal

pub loop-id-init : goal.loop-id-init
loop-id-init g c =
    (begun_up_to c.args.server.now.end (handling_of c.args.self.now), refl)

pub loop-id-preserved : goal.loop-id-preserved
loop-id-preserved g c =
    let so_far = c.loop-id.invariant in
    let made = c.in_ok-release_used.ensures in (
      next_up_to c.loop-id.above c.in-Some.id so_far.0
          (λ values log is. c.in-Some.ensures.number values log (rw (← c.conn.ensures) at is))
          (rw so_far.1 at made.returns),
      made.exchanges ∙ so_far.1,
    )

pub returns-in_err-release_used-clause-handles : goal.returns-in_err-release_used-clause-handles
returns-in_err-release_used-clause-handles g c =
    let so_far = c.loop-id.invariant in
    rw (c.release_used.ensures.exchanges, so_far.1)
    (then_handles (up_to_handles so_far.0)
    (on_handles (rw so_far.1 at c.release_used.ensures.returns)))

pub returns-clause-returned : goal.returns-clause-returned
returns-clause-returned g c =
    let so_far = c.loop-id.invariant in
    rw so_far.1 (all_up_to c.loop-id.above so_far.0
    (λ values log is. c.in_default.ensures.number values log (rw (← c.conn.ensures) at is)))
