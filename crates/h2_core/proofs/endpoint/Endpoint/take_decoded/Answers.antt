use Rattle.h2_core.proofs.Names.{false, refl, sym, ◌∙◌, End, end_of, is_fresh}
use Rattle.h2_spec_log.specs.States.{ClosedByUs}
use Rattle.h2_core.proofs.FrameVerdicts.{stale_of, ignored_rule, ignored_taken, idle_unwanted}
use Rattle.h2_core.proofs.FrameVerdicts.{closed_unwanted}
use Rattle.h2_core.proofs.endpoint.Endpoint.take_decoded.Goals as goal

pub returns-in-ClosedByUs : goal.returns-in-ClosedByUs
returns-in-ClosedByUs c =
    λ decoded octets same large whole.
    let e : End = end_of c.args.self.now in
    let is = sym c.in-ClosedByUs.ensures.state in
    ignored_taken e c.args.id c.args.end octets decoded c.args.self.now.list false _
    (ignored_rule e c.args.id c.args.end octets decoded is) same
    (let stale = stale_of e c.args.id ClosedByUs c.requires.sound is refl (is_fresh e c.args.id)
    refl in stale) refl

pub returns-in-Idle-2 : goal.returns-in-Idle-2
returns-in-Idle-2 c =
    λ decoded octets same large whole.
    let unwanted = idle_unwanted (end_of c.args.self.now) c.args.id c.args.end octets decoded
    (sym c.in-Idle.ensures.state) (sym c.is_fresh.ensures ∙ c.if-is_fresh.false) in
    rw c.fault.ensures (unwanted.fault, sym unwanted.opens, refl)

pub returns-in-Closed : goal.returns-in-Closed
returns-in-Closed c =
    λ decoded octets same large whole.
    let unwanted = closed_unwanted (end_of c.args.self.now) c.args.id c.args.end octets decoded
    (sym c.in-Closed.ensures.state) in
    rw c.fault-in-Closed.ensures (unwanted.fault, sym unwanted.opens, refl)
