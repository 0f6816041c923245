-- A list of fields as octets and the places of its fields among them, and what a builder of such a
-- list represents.
use Rattle.std.specs.Prelude.{ℕ, ◌-◌, ◌≤◌, List, [], ◌∷◌, length, map, take, drop, Bool}
use Rattle.std.specs.Prelude.{if◌then◌else◌, Option, None, Some}
use Rattle.std.specs.List.{AllByRecursion}
use Rattle.std.specs.Str.{bytes_eq}
use Rattle.hpack.specs.declared.types.field.Field.{Field}
use Rattle.hpack.specs.declared.types.field.FieldRef.{FieldRef}
use Rattle.hpack.specs.declared.types.field_place.FieldPlace.{FieldPlace}

-- the octets from one place to another
abbrev pub octets_between : List ℕ → ℕ → ℕ → List ℕ
octets_between octets start end = take (end - start) (drop start octets)

-- the field at a place
-- rule: HPACK 3.2 (own) A kept list says its fields and their number
unfoldable pub field_of : List ℕ → FieldPlace → Field
field_of octets place = record {
  name = octets_between octets place.start place.name_end;
  value = octets_between octets place.name_end place.value_end;
  sensitive = place.sensitive;
}

-- the fields at places
-- rule: HPACK 3.2 (own) A kept list says its fields and their number
abbrev pub fields_of : List ℕ → List FieldPlace → List Field
fields_of octets places = map (field_of octets) places

-- The place is among so many octets.
pub record IsWithin (count : ℕ) (place : FieldPlace) : Type 0 where
  pub name : place.start ≤ place.name_end
  pub value : place.name_end ≤ place.value_end
  pub end : place.value_end ≤ count

-- The places are among the octets.
abbrev pub AreWithin : List ℕ → List FieldPlace → Type 0
AreWithin octets places = AllByRecursion (IsWithin (length octets)) places

-- a field that is lent
abbrev pub field_lent : FieldRef → Field
field_lent field =
    record { name = field.name.now; value = field.value.now; sensitive = field.sensitive }

-- Whether a field has this name.
unfoldable pub is_named : List ℕ → Field → Bool
is_named name field = bytes_eq field.name name

-- the value of the first field with this name
-- rule: HPACK 3.2 (own) A kept list says its fields and their number
unfoldable pub value_of : List ℕ → List Field → Option (List ℕ)
value_of name [] = None
value_of name (field ∷ fields) =
    if is_named name field then Some field.value else value_of name fields
