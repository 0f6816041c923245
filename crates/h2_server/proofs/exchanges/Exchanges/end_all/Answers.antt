use Rattle.h2_server.specs.Exchanges.{handling_of}
use Rattle.h2_server.proofs.EndedExchanges.{ends_begin, ends_on, ends_over}
use Rattle.h2_server.proofs.exchanges.Exchanges.end_all.Goals as goal

pub loop-id-init : goal.loop-id-init
loop-id-init g c = ends_begin _ (handling_of c.args.self.now)

pub loop-id-preserved : goal.loop-id-preserved
loop-id-preserved g c =
    ends_on _ (handling_of c.args.self.now) (handling_of c.loop-id.self)
    (handling_of c.end.new.self) c.loop-id.above c.in-Some.id c.loop-id.invariant
    c.in-Some.ensures.next c.end.ensures

pub returns-clause-ends : goal.returns-clause-ends
returns-clause-ends g c =
    (ends_over _ (handling_of c.args.self.now) (handling_of c.loop-id.self)
    (handling_of c.end-2.new.self) c.loop-id.above c.loop-id.invariant
    c.in_default.ensures.next c.end-2.ensures).0

pub returns-clause-none : goal.returns-clause-none
returns-clause-none g c =
    (ends_over _ (handling_of c.args.self.now) (handling_of c.loop-id.self)
    (handling_of c.end-2.new.self) c.loop-id.above c.loop-id.invariant
    c.in_default.ensures.next c.end-2.ensures).1
