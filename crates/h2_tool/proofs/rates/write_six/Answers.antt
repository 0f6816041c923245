-- The digits are those of the number, with zeros before them.
use Rattle.std.proofs.Common.{decimal}
use Rattle.h2_tool.proofs.RateLemmas.{padded_six}
use Rattle.h2_tool.proofs.rates.write_six.Goals as goal

pub returns : goal.returns
returns g c = rw (c.laid_out.ensures, padded_six (decimal c.args.number)) at c.write.ensures.bytes
