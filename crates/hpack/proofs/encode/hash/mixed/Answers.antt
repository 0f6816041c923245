use Rattle.hpack.proofs.Names.{refl, mixed}
use Rattle.hpack.proofs.encode.hash.mixed.Goals as goal

pub returns : goal.returns
unfolding mixed
returns c = refl
