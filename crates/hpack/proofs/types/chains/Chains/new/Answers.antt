use Rattle.hpack.proofs.Names.{LeadsTo, AreLinked}
use Rattle.hpack.proofs.types.chains.Chains.new.Goals as goal

pub returns-clause-chains : goal.returns-clause-chains
unfolding LeadsTo AreLinked
returns-clause-chains c = λ bucket. record { heads = λ one lt. tt; linked = tt }
