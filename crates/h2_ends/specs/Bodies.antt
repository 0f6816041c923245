-- The octets of a body that waits to be sent.
use Rattle.std.specs.Prelude.{ℕ, List, take, drop}
use Rattle.h2_ends.specs.declared.body.Kept.{Kept}
use Rattle.h2_ends.specs.declared.body.Kept.TheVariants.{Own, Shared}

-- the octets of a body
pub record BodyOctets : Type 0 where
  -- the octets
  pub items : List ℕ

-- the octets that are kept
abbrev pub octets_kept_in : Kept → List ℕ
octets_kept_in (Own octets) = octets.items
octets_kept_in (Shared octets) = octets

-- so many octets from a place on
abbrev pub part_of : BodyOctets → (from count : ℕ) → List ℕ
part_of body from count = take count (drop from body.items)
