-- WINDOW_UPDATE of the connection widens its window.
use Rattle.h2_core.proofs.Names.{◌≤◌, arith, refl, WindowUpdate, ProtocolError, FlowControlError}
use Rattle.h2_core.proofs.Names.{end_of, after_ignored}
use Rattle.h2_core.proofs.ItemVerdicts.{fault_taken, ignored_taken}
use Rattle.h2_core.proofs.ItemUpdates.{empty_is_fault, great_is_fault, widens_connection}
use Rattle.h2_core.proofs.endpoint.Endpoint.widen_connection.Goals as goal

pub returns-then-increment-eq0 : goal.returns-then-increment-eq0
returns-then-increment-eq0 c =
    let e = end_of c.args.self.now in
    fault_taken e (WindowUpdate 0 c.args.increment) ProtocolError c.args.self.now.list
    c.fault.result c.fault.ensures (empty_is_fault e c.args.increment c.if-increment-eq0.true)

pub returns-then-increment-self : goal.returns-then-increment-self
returns-then-increment-self c =
    let e = end_of c.args.self.now in
    fault_taken e (WindowUpdate 0 c.args.increment) FlowControlError c.args.self.now.list
    c.fault-then-increment-self.result c.fault-then-increment-self.ensures
    (great_is_fault e c.args.increment c.if-increment-eq0.false (omega arith))

pub returns : goal.returns
unfolding after_ignored
returns c =
    let e = end_of c.args.self.now in
    let window : e.windows.send ≤ 2147483647 = c.requires.sound.ranges.send in
    ignored_taken e (WindowUpdate 0 c.args.increment) c.args.self.now.list _
    (widens_connection e c.args.increment c.if-increment-eq0.false (omega arith))
    (rw c.requires.sound.ranges.connection refl)
