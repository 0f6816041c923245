-- By the lemmas on pairs.
use Rattle.std.proofs.Common.{◌/◌, length, arith}
use Rattle.h2_frame.proofs.FramePartsLemmas.{pair_octets-pairs_of, pairs_in-typed}
use Rattle.h2_frame.proofs.frame_parts.complete_pairs.Goals as goal

pub returns-clause-same : goal.returns-clause-same
returns-clause-same c = pair_octets-pairs_of c.args.octets.now
    (λ k. omega (arith, c.type_inv.octets k))

pub returns-clause-typed : goal.returns-clause-typed
returns-clause-typed c = pairs_in-typed (length c.args.octets.now / 6) c.args.octets.now
    (λ k. omega (arith, c.type_inv.octets k))
