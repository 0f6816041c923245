-- Stream by stream, by the lemmas on a pass.
use Rattle.h2_ends.proofs.PassBegins.{pass_begins}
use Rattle.h2_ends.proofs.PassSteps.{past_idle, past_sent, past_stuck, pass_halts, pass_stops}
use Rattle.h2_ends.proofs.PassSteps.{pass_is_over}
use Rattle.h2_ends.proofs.end.End.pass_over.Goals as goal

pub loop-id-init : goal.loop-id-init
loop-id-init c =
    pass_begins c.args.self.now c.args.span c.args.pass.now c.saturating_sub-last.result
    c.saturating_sub-last.ensures

pub loop-id-preserved-in-Ok-Idle : goal.loop-id-preserved-in-Ok-Idle
loop-id-preserved-in-Ok-Idle c =
    past_idle c.args.self.now c.args.span c.args.pass.now c.loop-id.self c.loop-id.pass
    c.loop-id.last
    c.loop-id.invariant c.in-Some.id c.in-Some.ensures.next c.share.result c.share.new.self
    c.share.new.pass c.share.ensures
    c.in-Ok-Idle.field-0 c.in-Ok-Idle.field-0-is c.in-Ok-Idle.is

pub loop-id-preserved-in-Ok-Sent : goal.loop-id-preserved-in-Ok-Sent
loop-id-preserved-in-Ok-Sent c =
    past_sent c.args.self.now c.args.span c.args.pass.now c.loop-id.self c.loop-id.pass
    c.loop-id.last
    c.loop-id.invariant c.in-Some.id c.in-Some.ensures.next c.share.result c.share.new.self
    c.share.new.pass c.share.ensures
    c.in-Ok-Sent.field-0 c.in-Ok-Sent.field-0-is c.in-Ok-Sent.is c.forget_if_over.new.self
    c.forget_if_over.ensures.waits c.forget_if_over.ensures.one c.forget_if_over.ensures.represents

pub loop-id-preserved : goal.loop-id-preserved
loop-id-preserved c =
    past_stuck c.args.self.now c.args.span c.args.pass.now c.loop-id.self c.loop-id.pass
    c.loop-id.last
    c.loop-id.invariant c.in-Some.id c.in-Some.ensures.next c.share.result c.share.new.self
    c.share.new.pass c.share.ensures
    c.in-Ok-Stuck.field-0 c.in-Ok-Stuck.field-0-is c.in-Ok-Stuck.is c.with-pass.result
    c.with-pass.ensures.here c.with-pass.ensures.more

pub returns-in-Ok-Full : goal.returns-in-Ok-Full
returns-in-Ok-Full c =
    pass_halts c.args.self.now c.args.span c.args.pass.now c.loop-id.self c.loop-id.pass
    c.loop-id.last
    c.loop-id.invariant c.in-Some.id c.in-Some.ensures.next c.share.result c.share.new.self
    c.share.new.pass c.share.ensures
    c.in-Ok-Full.field-0 c.in-Ok-Full.field-0-is c.in-Ok-Full.is

pub returns-in-Err : goal.returns-in-Err
returns-in-Err c =
    pass_stops c.args.self.now c.args.span c.args.pass.now c.loop-id.self c.loop-id.pass
    c.loop-id.last
    c.loop-id.invariant c.in-Some.id c.in-Some.ensures.next c.share.result c.share.new.self
    c.share.new.pass c.share.ensures
    c.in-Err.refusal c.in-Err.is

pub returns : goal.returns
returns c =
    pass_is_over c.args.self.now c.args.span c.args.pass.now c.loop-id.self c.loop-id.pass
    c.loop-id.last c.loop-id.invariant c.in_default.ensures.next
