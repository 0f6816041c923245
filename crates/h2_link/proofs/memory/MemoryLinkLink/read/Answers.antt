-- The octets that were copied are those after the ones that were given before.
use Rattle.std.proofs.Common.{arith}
use Rattle.h2_link.proofs.GivesLemmas.{gives_next}
use Rattle.h2_link.proofs.memory.MemoryLinkLink.read.Goals as goal

pub returns-clause-gives : goal.returns-clause-gives
returns-clause-gives c =
    let copied = rw c.deref.ensures.value at c.copy_from_slice.ensures.after in
    gives_next _ _ _ _ _ _ (omega arith) c.fails.ensures.given copied
