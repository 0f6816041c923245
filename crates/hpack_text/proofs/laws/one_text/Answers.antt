use Rattle.hpack_text.proofs.CodeLemmas.{one_text_lem}
use Rattle.hpack_text.proofs.laws.one_text.Goals as goal

pub returns : goal.returns
returns c = one_text_lem
