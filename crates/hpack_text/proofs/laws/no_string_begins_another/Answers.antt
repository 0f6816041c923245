use Rattle.hpack_text.proofs.StringLemmas.{Str-unique}
use Rattle.hpack_text.proofs.laws.no_string_begins_another.Goals as goal

pub returns : goal.returns
returns c = Str-unique
