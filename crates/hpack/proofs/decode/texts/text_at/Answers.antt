use Rattle.hpack.proofs.Names.{err_from_is_err_and}
use Rattle.hpack.proofs.PrefixLemmas.{str_fault}
use Rattle.hpack.proofs.decode.texts.text_at.Goals as goal

pub returns-in_err-count-clause-fault : goal.returns-in_err-count-clause-fault
returns-in_err-count-clause-fault c =
    let p = err_from_is_err_and c.from_residual.result c.from_residual.ensures.1 in
    rw (p.1, p.2) (str_fault c.args.octets.now _ c.in_err-count.ensures.only)
