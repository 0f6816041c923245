-- The preface begins with the first octets, as far as they go.
use Rattle.h2_follow.proofs.Names.{rules}
use Rattle.h2_follow.proofs.TextLemmas.{take_least}
use Rattle.h2_follow.proofs.text.begins_as_preface.Goals as goal

pub returns : goal.returns
returns c = search (rules, take_least)
