use Rattle.hpack.proofs.WordLemmas.{other_lengths}
use Rattle.hpack.proofs.encode.search.is_same.Goals as goal

pub returns-else-octets-others : goal.returns-else-octets-others
returns-else-octets-others c =
    other_lengths c.args.octets.now c.args.others.now c.if-octets-others.false
