-- The octets of a name or a value, wherever they are.
use Rattle.std.specs.Prelude.{ℕ, List}
use Rattle.hpack.specs.declared.types.octets.Kept.{Kept}
use Rattle.hpack.specs.declared.types.octets.Kept.TheVariants as kept

-- the octets
-- rule (contract): HPACK 2.1 (own) The octets of a name and a value are those that were given
abbrev pub octets_kept : Kept → List ℕ
octets_kept (kept.Owned octets) = octets.items
octets_kept (kept.Static octets) = octets.now
octets_kept (kept.Short octets) = octets
