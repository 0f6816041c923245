use Rattle.hpack.proofs.Names.{take}
use Rattle.hpack.proofs.PrefixLemmas.{octets_after, split_at_count, index_no_entry}
use Rattle.hpack.proofs.decode.literal.indexed.Goals as goal

pub returns-in-None-clause-fault : goal.returns-in-None-clause-fault
returns-in-None-clause-fault c =
    let octets = c.args.octets.now in
    let count = c.in_ok-index.count in
    index_no_entry c.args.table.now.entries c.in_ok-index.index octets (take count octets)
    (octets_after octets count) (split_at_count octets count) c.in_ok-index.ensures.ok.1
    c.in-None.ensures
