use Rattle.hpack.proofs.Names.{arith}
use Rattle.hpack.proofs.ChoiceLemmas.{least_static, least_dynamic, least_small}
use Rattle.hpack.proofs.encode.choice.exact_index.Goals as goal

pub returns-then-found-gt0-clause-value : goal.returns-then-found-gt0-clause-value
returns-then-found-gt0-clause-value c =
    least_static _ _ _ c.static_index-found.ensures c.if-found-gt0.true

pub returns-then-found-gt0-clause-small : goal.returns-then-found-gt0-clause-small
returns-then-found-gt0-clause-small c =
    least_small _ _ _ _ c.requires.pending (returns-then-found-gt0-clause-value c)

pub returns-clause-value : goal.returns-clause-value
returns-clause-value c =
    least_dynamic _ _ _ _ c.static_index-found.ensures (omega arith) c.dynamic_index.ensures

pub returns-clause-small : goal.returns-clause-small
returns-clause-small c = least_small _ _ _ _ c.requires.pending (returns-clause-value c)
