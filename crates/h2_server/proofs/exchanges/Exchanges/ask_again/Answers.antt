use Rattle.h2_server.specs.Exchanges.{awake, handling_of}
use Rattle.h2_server.proofs.Asked.{changed_all, changed_begin, changed_emptied, changed_on}
use Rattle.h2_server.proofs.StepsMade.{nothing_handles, then_handles}
use Rattle.h2_server.proofs.exchanges.Exchanges.ask_again.Goals as goal

pub loop-id-init : goal.loop-id-init
loop-id-init g c = record {
  handles = λ end. nothing_handles end (handling_of c.args.self.now);
  woken = changed_begin awake c.args.self.now.kept.entries;
}

pub loop-id-preserved : goal.loop-id-preserved
loop-id-preserved g c = record {
  handles = λ end. then_handles (c.loop-id.invariant.handles end) (c.wake.ensures.handles end);
  woken = changed_on awake c.args.self.now.kept.entries c.loop-id.self.kept.entries
      c.wake.new.self.kept.entries c.loop-id.above c.in-Some.id c.loop-id.invariant.woken
      c.in-Some.ensures.next c.wake.ensures.at c.wake.ensures.others;
}

pub returns : goal.returns
returns g c = record {
  handles = c.loop-id.invariant.handles;
  all = changed_all awake c.args.self.now.kept.entries c.loop-id.self.kept.entries c.loop-id.above
      c.loop-id.invariant.woken c.in_default.ensures.next;
  emptied = changed_emptied awake (handling_of c.args.self.now) (handling_of c.loop-id.self)
      c.loop-id.above c.loop-id.invariant.woken c.in_default.ensures.next;
}
