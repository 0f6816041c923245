use Rattle.hpack.proofs.Names.{err_from_is_err_and}
use Rattle.hpack.proofs.PrefixLemmas.{int_fault}
use Rattle.hpack.proofs.decode.texts.int_at.Goals as goal

pub returns-in_err-read-clause-fault : goal.returns-in_err-read-clause-fault
returns-in_err-read-clause-fault c =
    let p = err_from_is_err_and c.from_residual.result c.from_residual.ensures.1 in
    rw (p.1, p.2) (int_fault c.args.prefix_bits c.args.octets.now _ c.in_err-read.ensures.only)
