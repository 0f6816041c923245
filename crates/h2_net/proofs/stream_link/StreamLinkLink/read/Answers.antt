-- Where a read has failed, all that was held is sent.
use Rattle.h2_net.proofs.SendingLemmas.{all_sent}
use Rattle.h2_net.proofs.stream_link.StreamLinkLink.read.Goals as goal

pub returns-in-Err-clause-reads : goal.returns-in-Err-clause-reads
returns-in-Err-clause-reads g c =
    let sends = c.in_ok-flush.ensures.sends in
    (c.flush.new.self.stream, all_sent _ _ _ _ sends.0 sends.1)
