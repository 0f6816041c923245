-- What was lent of the map is written back as sending left it.
use Rattle.h2_ends.proofs.Names.{sym, refl, err_from_is_err_and, Idle, Sent, Stuck, Full}
use Rattle.h2_ends.proofs.SendingStreams.{unwritten, other_here}
use Rattle.h2_ends.proofs.ShareTrailers.{sent_as}
use Rattle.h2_ends.proofs.ShareIdle.{idle_share}
use Rattle.h2_ends.proofs.end.End.share.Goals as goal

pub returns-in_default-outgoing : goal.returns-in_default-outgoing
returns-in_default-outgoing c =
    let old = c.args.self.now in
    let one = c.in-Some.stream.now in
    let here = sym c.in-Some.ensures.value in
    idle_share old c.args.id c.args.pass.now (c.get_mut.follows.lender one)
    (λ i. unwritten old.streams (c.get_mut.follows.lender one) c.args.id one i here
    (c.get_mut.follows.holds one))
    (other_here old c.args.id one here c.in_default-outgoing.not-Waiting)

pub returns-in_err-send_share : goal.returns-in_err-send_share
returns-in_err-send_share c =
    let answer = err_from_is_err_and c.from_residual.result c.from_residual.ensures.1 in
    rw (answer.1, answer.2) (c.in_err-send_share.ensures c.args.self.now c.in-Some.stream.now
    c.get_mut.follows.lender refl (sym c.in-Some.ensures.value) c.in-Waiting.is
    c.get_mut.follows.holds)

pub returns-in-Sent : goal.returns-in-Sent
returns-in-Sent c =
    sent_as _ _ c.args.id _ _ c.args.pass.now _ c.in_ok-send_share.field-0 Sent c.in-Sent.is
    c.in_ok-send_share.ensures c.args.self.now c.in-Some.stream.now c.get_mut.follows.lender refl
    (sym c.in-Some.ensures.value) c.in-Waiting.is c.get_mut.follows.holds

pub returns-in-Idle : goal.returns-in-Idle
returns-in-Idle c =
    sent_as _ _ c.args.id _ _ c.args.pass.now _ c.in_ok-send_share.field-0 Idle c.in-Idle.is
    c.in_ok-send_share.ensures c.args.self.now c.in-Some.stream.now c.get_mut.follows.lender refl
    (sym c.in-Some.ensures.value) c.in-Waiting.is c.get_mut.follows.holds

pub returns-in-Stuck : goal.returns-in-Stuck
returns-in-Stuck c =
    sent_as _ _ c.args.id _ _ c.args.pass.now _ c.in_ok-send_share.field-0 Stuck c.in-Stuck.is
    c.in_ok-send_share.ensures c.args.self.now c.in-Some.stream.now c.get_mut.follows.lender refl
    (sym c.in-Some.ensures.value) c.in-Waiting.is c.get_mut.follows.holds

pub returns-in-Full : goal.returns-in-Full
returns-in-Full c =
    sent_as _ _ c.args.id _ _ c.args.pass.now _ c.in_ok-send_share.field-0 Full c.in-Full.is
    c.in_ok-send_share.ensures c.args.self.now c.in-Some.stream.now c.get_mut.follows.lender refl
    (sym c.in-Some.ensures.value) c.in-Waiting.is c.get_mut.follows.holds
