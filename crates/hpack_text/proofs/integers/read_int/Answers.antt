use Rattle.hpack_text.proofs.IntegerLemmas.{only_int}
use Rattle.hpack_text.proofs.integers.read_int.Goals as goal

pub returns-clause-only : goal.returns-clause-only
returns-clause-only c = λ value count within encoded.
    only_int c.args.prefix c.args.octets.now value count c.leading_int.result
    c.leading_int.ensures.answer within encoded
