-- A pair has six octets.
use Rattle.std.proofs.Common.{◌≡◌, length, ◌/◌, arith}
use Rattle.h2_frame.specs.Pairs.{pairs_of}
use Rattle.h2_frame.proofs.PairLemmas.{length-pairs_in}
use Rattle.std.proofs.lemmas.Bool.Decides.{nat_tests}
use Rattle.h2_frame.proofs.pairs.Pairs.is_empty.Goals as goal

pub returns : goal.returns
returns c =
    let octets = c.args.self.now.octets.now in
    let count : length (pairs_of octets) ≡ length octets / 6 = length-pairs_in _ octets in
    rw count (grind (arith, nat_tests))
