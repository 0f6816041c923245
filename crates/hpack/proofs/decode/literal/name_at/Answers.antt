use Rattle.hpack.proofs.Names.{IfErr-weaker, IsStr, IsName}
use Rattle.hpack.proofs.PrefixLemmas.{fault_moves, name_no_str}
use Rattle.hpack.proofs.decode.literal.name_at.Goals as goal

pub returns-then-index-eq0-clause-fault : goal.returns-then-index-eq0-clause-fault
returns-then-index-eq0-clause-fault c =
    IfErr-weaker c.text_at.result _ _
    (λ fault. fault_moves IsStr (IsName c.args.table.now.entries c.args.index) c.args.octets.now
    c.args.octets.now fault
    (name_no_str c.args.table.now.entries c.args.index c.args.octets.now c.if-index-eq0.true))
    c.text_at.ensures.fault
