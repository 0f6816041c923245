-- By the laws of two joined ends.
use Rattle.h2_joined.proofs.RunHeadline.{has_headline}
use Rattle.h2_joined.proofs.running.headline.Goals as goal

pub returns : goal.returns
returns c = has_headline
