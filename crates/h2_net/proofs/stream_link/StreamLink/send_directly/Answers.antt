-- The first octets were sent, where sending has failed too.
use Rattle.h2_net.proofs.SendingLemmas.{sent_directly}
use Rattle.h2_net.proofs.stream_link.StreamLink.send_directly.Goals as goal

pub returns-clause-holds : goal.returns-clause-holds
returns-clause-holds g c = (
  c.send-count.result.0,
  sent_directly _ _ c.args.self.now.held.items c.args.octets.now c.send-count.result.0
      c.requires.none c.send-count.ensures.bound c.send-count.ensures.octets,
)
