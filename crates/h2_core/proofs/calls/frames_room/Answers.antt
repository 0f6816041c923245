-- A block has few octets more than its list's size.
use Rattle.h2_core.proofs.Names.{arith, block_of}
use Rattle.h2_core.proofs.CallOutput.{block_within, frames_within}
use Rattle.h2_core.proofs.calls.frames_room.Goals as goal

pub returns-clause-enough : goal.returns-clause-enough
returns-clause-enough c = λ fields size most encoder id end least.
    frames_within most id end (block_of encoder fields) _ least
    (omega (arith, size, block_within encoder fields))
