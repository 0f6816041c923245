use Rattle.hpack_text.proofs.TreeLemmas.{begins_with_code}
use Rattle.hpack_text.proofs.laws.some_code_begins.Goals as goal

pub returns : goal.returns
returns c = begins_with_code
