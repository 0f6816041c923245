use Rattle.hpack_text.proofs.CodeLemmas.{one_coding_fault_lem}
use Rattle.hpack_text.proofs.laws.one_coding_fault.Goals as goal

pub returns : goal.returns
returns c = one_coding_fault_lem
