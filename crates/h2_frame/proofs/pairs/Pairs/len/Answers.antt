-- A pair has six octets.
use Rattle.std.proofs.Common.{sym}
use Rattle.h2_frame.proofs.PairLemmas.{length-pairs_in}
use Rattle.h2_frame.proofs.pairs.Pairs.len.Goals as goal

pub returns : goal.returns
returns c = sym (length-pairs_in _ _)
