use Rattle.h2_message.proofs.ScanAdds.{nothing-seen}
use Rattle.h2_message.proofs.scan.empty.Goals as goal

pub returns : goal.returns
returns c kind = nothing-seen kind
