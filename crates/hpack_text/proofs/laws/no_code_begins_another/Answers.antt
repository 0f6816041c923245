use Rattle.hpack_text.proofs.TreeLemmas.{same_symbol}
use Rattle.hpack_text.proofs.laws.no_code_begins_another.Goals as goal

pub returns : goal.returns
returns c = λ symbol other more following lt lt' e.
    (same_symbol symbol other more following lt lt' e).0
