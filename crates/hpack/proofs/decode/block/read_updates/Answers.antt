use Rattle.hpack.proofs.Names.{arith}
use Rattle.hpack.proofs.BlockLemmas.{above_limit}
use Rattle.hpack.proofs.decode.block.read_updates.Goals as goal

pub returns-then-maximum-limit-clause-fault : goal.returns-then-maximum-limit-clause-fault
returns-then-maximum-limit-clause-fault c =
    above_limit c.args.table.now c.apply_updates.new.table c.args.limit c.args.octets.now
    c.in_ok-unparsed.unparsed.now (omega (arith, c.maximum.ensures, c.if-maximum-limit.true))
    c.in_ok-unparsed.ensures.no_more c.in_ok-unparsed.ensures.ok
