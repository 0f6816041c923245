-- By the lemma on frame sizes.
use Rattle.h2_laws_log.proofs.FrameSizes.{sent_payload_fits}
use Rattle.h2_laws_log.proofs.output.payload_fits.Goals as goal

pub returns : goal.returns
returns c = sent_payload_fits
