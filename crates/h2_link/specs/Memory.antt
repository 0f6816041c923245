-- What a link in memory has given and taken.
use Rattle.std.specs.Prelude.{List, ℕ, take}
use Rattle.h2_link.specs.declared.memory.MemoryLink.{MemoryLink}

-- the octets of its input that it has given
-- rule: links (own) A link gives and takes octets in order
abbrev pub octets_given : MemoryLink → List ℕ
octets_given link = take link.used link.input.items

-- the octets that it has taken
-- rule: links (own) A link gives and takes octets in order
abbrev pub octets_taken : MemoryLink → List ℕ
octets_taken link = link.output.items
