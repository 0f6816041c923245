-- Six octets for each pair.
use Rattle.std.proofs.Common.{arith}
use Rattle.h2_frame.proofs.FramePartsLemmas.{length-body_pairs}
use Rattle.h2_frame.proofs.frame_parts.Body.len.Goals as goal

pub returns-in-Pairs-clause-small : goal.returns-in-Pairs-clause-small
returns-in-Pairs-clause-small c =
    let six = length-body_pairs c.args.self c.in-Pairs.pairs c.in-Pairs.is in
    λ small. omega (arith, six, c.saturating_mul.ensures)

pub returns-in-Pairs-clause-large : goal.returns-in-Pairs-clause-large
returns-in-Pairs-clause-large c =
    let six = length-body_pairs c.args.self c.in-Pairs.pairs c.in-Pairs.is in
    λ large. omega (arith, six, c.saturating_mul.ensures)
