-- By what is kept of the stream.
use Rattle.h2_ends.proofs.PartSends.{sent_at_once}
use Rattle.h2_ends.proofs.laws.parts_are_sent_at_once.Goals as goal

pub returns : goal.returns
returns c = sent_at_once
