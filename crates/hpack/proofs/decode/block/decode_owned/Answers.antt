use Rattle.hpack.proofs.Names.{IfOk-weaker, IfErr-weaker}
use Rattle.hpack.proofs.BlockLemmas.{block_read, block_fault}
use Rattle.hpack.proofs.decode.block.decode_owned.Goals as goal

pub returns-clause-ok : goal.returns-clause-ok
returns-clause-ok c =
    IfOk-weaker c.read_owned_fields.result _ _ (λ list h. (
      h.0,
      block_read c.args.table.now c.read_updates.new.table c.read_owned_fields.new.table
          c.args.limit c.args.octets.now c.in_ok-unparsed.unparsed.now h.0
          c.in_ok-unparsed.ensures.within c.in_ok-unparsed.ensures.so_far h.1,
      h.2,
    )) c.read_owned_fields.ensures.ok

pub returns-clause-fault : goal.returns-clause-fault
returns-clause-fault c =
    IfErr-weaker c.read_owned_fields.result _ _
    (λ fault. block_fault c.args.table.now c.read_updates.new.table c.args.limit c.args.octets.now
    c.in_ok-unparsed.unparsed.now fault c.in_ok-unparsed.ensures.no_more
    c.in_ok-unparsed.ensures.so_far) c.read_owned_fields.ensures.fault
