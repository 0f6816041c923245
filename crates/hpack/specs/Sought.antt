-- Looking for the entry of a field: what is looked for, and the index of the first entry that
-- passes.
use Rattle.std.specs.Prelude.{ℕ, suc, ◌<◌, ◌&&◌, if◌then◌else◌, Bool, List, [], ◌∷◌, get_or}
use Rattle.hpack.specs.Entry.{Entry}
use Rattle.hpack.specs.declared.types.field.Field.{Field}
use Rattle.hpack.specs.declared.encode.search.Sought.{Sought}
use Rattle.hpack.specs.declared.encode.search.Sought.TheVariants.{Exact, Name}
use Rattle.hpack.specs.Choice.{same_octets}

-- The entry has the field's name, and its value where that is looked for too.
abbrev pub is_sought : Sought → Field → Entry → Bool
is_sought Exact field = λ one. same_octets one.name field.name && same_octets one.value field.value
is_sought Name field = λ one. same_octets one.name field.name

-- the index of the first entry that passes, where the first of all has the index `start`, or 0
unfoldable pub first_index : (Entry → Bool) → ℕ → List Entry → ℕ
first_index test start [] = 0
first_index test start (one ∷ others) = if test one then start
    else first_index test (suc start) others

-- The numbers of a list are octets.
abbrev pub AreOctetsByPlace : List ℕ → Type 0
AreOctetsByPlace octets = (place : ℕ) → get_or octets place 0 < 256
