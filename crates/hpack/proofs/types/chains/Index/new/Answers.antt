use Rattle.hpack.proofs.Names.{[], refl}
use Rattle.hpack.proofs.IndexLemmas.{index_empty}
use Rattle.hpack.proofs.types.chains.Index.new.Goals as goal

pub returns-clause-empty : goal.returns-clause-empty
returns-clause-empty c = index_empty _ [] refl
