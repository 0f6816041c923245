use Rattle.hpack.proofs.Names.{IfErr-weaker}
use Rattle.hpack.proofs.BlockLemmas.{fault_of_block}
use Rattle.hpack.proofs.decode.decoder.Decoder.decode_into.Goals as goal

pub returns-clause-only : goal.returns-clause-only
returns-clause-only c =
    rw (← c.self.view_is)
    (λ fields after not_failed block. IfErr-weaker c.decode_block-decoded.result _ _
    (fault_of_block c.self.inside.table after c.self.inside.limit c.args.octets.now fields
    block) c.decode_block-decoded.ensures.fault)

pub returns-clause-fault : goal.returns-clause-fault
returns-clause-fault c = rw (← c.self.view_is) (λ not_failed. c.decode_block-decoded.ensures.fault)
