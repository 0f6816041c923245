use Rattle.hpack.proofs.SizeLemmas.{fit-prefix, fit-longest}
use Rattle.hpack.proofs.WrittenTables.{fit_within}
use Rattle.hpack.proofs.laws.blocks.longest_prefix.Goals as goal

pub returns-clause-prefix : goal.returns-clause-prefix
returns-clause-prefix c = fit-prefix

pub returns-clause-within : goal.returns-clause-within
returns-clause-within c = fit_within

pub returns-clause-longest : goal.returns-clause-longest
returns-clause-longest c = fit-longest
