-- Octets are below 256, so a number of three of them has 24 bits.
use Rattle.std.proofs.Common.{arith}
use Rattle.std.proofs.lemmas.Nat.{and_le_r}
use Rattle.byteorder.specs.Numbers.{big_from-lt}
use Rattle.h2_frame.proofs.reading_heads.head.Goals as goal

pub returns-clause-bounds : goal.returns-clause-bounds
returns-clause-bounds c = (
  omega (arith, big_from-lt 0 3 c.args.octets.now c.fits-octets),
  omega (arith, and_le_r c.read_u32.result 0x7fffffff),
)
