-- Hosts with and without brackets, and queries.
use Rattle.std.proofs.Common.{◌≡◌, [], codes, refl, Some, None}
use Rattle.h2_net.specs.Locations.{query_part, without_brackets}

address : without_brackets (codes "[::1]") ≡ codes "::1"
address = refl

bare_address : without_brackets (codes "::1") ≡ codes "::1"
bare_address = refl

opening_alone : without_brackets (codes "[") ≡ codes "["
opening_alone = refl

nothing_in_brackets : without_brackets (codes "[]") ≡ []
nothing_in_brackets = refl

not_closed : without_brackets (codes "[x") ≡ codes "[x"
not_closed = refl

query : query_part (Some (codes "a=b")) ≡ codes "?a=b"
query = refl

empty_query : query_part (Some []) ≡ codes "?"
empty_query = refl

no_query : query_part None ≡ []
no_query = refl
