use Rattle.hpack_text.proofs.StringLemmas.{only_str}
use Rattle.hpack_text.proofs.strings.read_string_into.Goals as goal

pub returns-clause-only : goal.returns-clause-only
returns-clause-only c = λ text count within encoded.
    only_str c.args.out.now.items c.leading_string.new.out.items c.args.octets.now text count
    c.leading_string.result c.leading_string.ensures.answer within encoded
