-- PING is answered.
use Rattle.h2_core.proofs.Names.{◌≤◌, ◌++◌, ℕ, List, true, false, refl, arith, ap, ◌∙◌, Ping}
use Rattle.h2_core.proofs.Names.{encoding_of, EnhanceYourCalm, end_of, err_from_is_err_and, NoEvent}
use Rattle.h2_core.proofs.Names.{encoding_of_items, encoding_of_item, after_ignored}
use Rattle.h2_core.proofs.StepFrames.{ping-written, length-ping}
use Rattle.h2_core.proofs.ItemPings.{ping_too_much, ping_answered}
use Rattle.h2_core.proofs.ItemVerdicts.{fault_taken, ignored_taken, lacks_memory}
use Rattle.h2_core.proofs.StepEnds.{with_waiting}
use Rattle.h2_core.proofs.endpoint.Endpoint.take_ping.Goals as goal

pub returns-then-len : goal.returns-then-len
returns-then-len c =
    let e = end_of c.args.self.now in
    let frame = Ping false c.args.octets in
    fault_taken e frame EnhanceYourCalm c.args.self.now.list c.fault.result c.fault.ensures
    (ping_too_much e c.args.octets (omega arith) (omega arith))

pub add_frame-requires-clause-writable : goal.add_frame-requires-clause-writable
add_frame-requires-clause-writable c = ping-written true c.args.octets (omega arith)

pub add_frame-requires-clause-short : goal.add_frame-requires-clause-short
add_frame-requires-clause-short c = omega (arith, length-ping true c.args.octets (omega arith))

pub add_frame-requires-clause-room : goal.add_frame-requires-clause-room
add_frame-requires-clause-room c =
    let room : 17 ≤ c.reserve.new.self.spare =
    c.in_ok-reserve.ensures.ok in
    omega (arith, room, length-ping true c.args.octets (omega arith))

pub returns : goal.returns
unfolding encoding_of_items encoding_of_item after_ignored
returns c =
    let e = end_of c.args.self.now in
    let frame = Ping false c.args.octets in
    ignored_taken e frame c.args.self.now.list _
    (ping_answered e c.args.octets (omega arith) (omega arith))
    (ap (with_waiting e) (c.add_frame.ensures.waiting
    ∙ ap (λ (waiting : List ℕ). waiting ++ encoding_of (Ping true c.args.octets))
    c.reserve.ensures.waiting))

pub returns-in_err-reserve : goal.returns-in_err-reserve
returns-in_err-reserve c =
    let e = end_of c.args.self.now in
    let p = err_from_is_err_and c.from_residual.result c.from_residual.ensures.1 in
    rw (p.1, p.2) (lacks_memory e (Ping false c.args.octets) c.args.self.now.list NoEvent _
    (ping_answered e c.args.octets (omega arith) (omega arith)) refl
    (ap (with_waiting e) c.reserve.ensures.waiting))
