-- Stream by stream, by the lemmas on a pump.
use Rattle.h2_ends.proofs.Names.{err_from_is_err_and}
use Rattle.h2_ends.proofs.SendingPump.{pump_closed, begins_pump, past_idle, past_stuck, past_sent}
use Rattle.h2_ends.proofs.SendingPump.{pump_full, pump_refused, pump_over}
use Rattle.h2_ends.proofs.end.End.pump.Goals as goal

pub returns-then-is_some : goal.returns-then-is_some
returns-then-is_some c =
    pump_closed c.args.self.now c.failed.result c.failed.ensures c.if-is_some.ensures

pub loop-id-init : goal.loop-id-init
loop-id-init c =
    begins_pump c.args.self.now c.failed.result c.failed.ensures c.if-is_some.ensures
    c.none-left.result c.saturating_sub-last.result c.saturating_sub-last.ensures

pub loop-id-preserved-in-Idle : goal.loop-id-preserved-in-Idle
loop-id-preserved-in-Idle c =
    past_idle c.args.self.now c.loop-id.self c.loop-id.left c.loop-id.count c.loop-id.last
    c.loop-id.invariant c.in-Some.id c.in-Some.ensures.next c.pump_stream.new.self
    c.pump_stream.new.count c.in_ok-pump_stream.field-0 c.in-Idle.is
    c.in_ok-pump_stream.ensures.pumps c.in_ok-pump_stream.ensures.waits

pub loop-id-preserved-in-Sent : goal.loop-id-preserved-in-Sent
loop-id-preserved-in-Sent c =
    past_sent c.args.self.now c.loop-id.self c.loop-id.left c.loop-id.count c.loop-id.last
    c.loop-id.invariant c.in-Some.id c.in-Some.ensures.next c.pump_stream.new.self
    c.pump_stream.new.count c.in_ok-pump_stream.field-0 c.in-Sent.is
    c.in_ok-pump_stream.ensures.pumps c.in_ok-pump_stream.ensures.waits c.forget_if_over.new.self
    c.forget_if_over.ensures.waits c.forget_if_over.ensures.one c.forget_if_over.ensures.represents

pub loop-id-preserved : goal.loop-id-preserved
loop-id-preserved c =
    past_stuck c.args.self.now c.loop-id.self c.loop-id.left c.loop-id.count c.loop-id.last
    c.loop-id.invariant c.in-Some.id c.in-Some.ensures.next c.pump_stream.new.self
    c.pump_stream.new.count c.in_ok-pump_stream.field-0 c.in-Stuck.is
    c.in_ok-pump_stream.ensures.pumps c.in_ok-pump_stream.ensures.waits c.with-left.result
    c.with-left.ensures.here c.with-left.ensures.more

pub returns-in-Full : goal.returns-in-Full
returns-in-Full c =
    pump_full c.args.self.now c.loop-id.self c.loop-id.left c.loop-id.count c.loop-id.last
    c.loop-id.invariant c.in-Some.id c.in-Some.ensures.next c.pump_stream.new.self
    c.pump_stream.new.count c.in_ok-pump_stream.field-0 c.in-Full.is
    c.in_ok-pump_stream.ensures.pumps

pub returns-in_err-pump_stream : goal.returns-in_err-pump_stream
returns-in_err-pump_stream c =
    let made = err_from_is_err_and c.from_residual.result c.from_residual.ensures.1 in
    rw (made.1, made.2) (pump_refused c.args.self.now c.loop-id.self c.loop-id.left c.loop-id.count
    c.loop-id.last c.loop-id.invariant c.in-Some.id c.in-Some.ensures.next c.pump_stream.new.self
    c.pump_stream.new.count _ c.in_err-pump_stream.ensures.pumps)

pub returns : goal.returns
returns c =
    pump_over c.args.self.now c.loop-id.self c.loop-id.left c.loop-id.count c.loop-id.last
    c.loop-id.invariant c.in_default.ensures.next
