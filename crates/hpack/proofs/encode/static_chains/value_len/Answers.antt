use Rattle.hpack.proofs.Names.{◌∙◌}
use Rattle.hpack.proofs.StaticChainLemmas.{value_length}
use Rattle.hpack.proofs.encode.static_chains.value_len.Goals as goal

pub returns : goal.returns
returns c = λ other. c.from.ensures ∙ value_length c.args.place other c.requires
