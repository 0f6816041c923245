-- What a builder of a list of fields represents, and what is added to it.
use Rattle.std.specs.Prelude.{◌≡◌, ℕ, ◌+◌, ◌<◌, List, [], ◌∷◌, ◌++◌, length, Some, None}
use Rattle.hpack.specs.declared.types.field.Field.{Field}
use Rattle.hpack.specs.declared.types.read_field.ReadField.{ReadField}
use Rattle.hpack.specs.declared.decode.field_list_builder.FieldListBuilder.{FieldListBuilder}
use Rattle.hpack.specs.FieldLists.{AreWithin, fields_of}
use Rattle.hpack.specs.Lists.{list_size}

-- The builder has the fields, and so much remains of the limit; or their size is above it, and it
-- has none. The octets may go on after those of the fields.
-- rule: HPACK 3.2 (own) A list that the caller keeps is emptied, then has the block's fields
pub record RepresentsList (list_limit : ℕ) (fields : List Field) (builder : FieldListBuilder)
    : Type 0 where
  pub within : AreWithin builder.octets.items builder.places.items
  pub whole : (remaining : ℕ) → builder.remaining ≡ Some remaining
      → (fields_of builder.octets.items builder.places.items ≡ fields)
      × (list_size fields + remaining ≡ list_limit)
  pub too_large : builder.remaining ≡ None
      → (builder.places.items ≡ []) × (list_limit < list_size fields)

-- From an empty list the fields were built, whatever the limit.
abbrev pub Builds : FieldListBuilder → List Field → FieldListBuilder → Type 0
Builds old fields new = (list_limit : ℕ) → RepresentsList list_limit [] old
    → RepresentsList list_limit fields new

-- Whatever fields the builder represented for whatever limit, it represents those and one more.
abbrev pub Adds : FieldListBuilder → Field → FieldListBuilder → Type 0
Adds old field new = (list_limit : ℕ) (fields : List Field) → RepresentsList list_limit fields old
    → RepresentsList list_limit (fields ++ field ∷ []) new

-- The octets of the field, its name and then its value, were appended.
pub record AppendsField (old new : List ℕ) (field : Field) (read : ReadField) : Type 0 where
  pub joined : new ≡ old ++ (field.name ++ field.value)
  pub named : read.name_len ≡ length field.name
  pub marked : read.sensitive ≡ field.sensitive

-- The octets of the field were appended to those of a builder.
abbrev pub ReadsInto : FieldListBuilder → Field → ReadField → FieldListBuilder → Type 0
ReadsInto old field read new = AppendsField old.octets.items new.octets.items field read
    × (new.places ≡ old.places) × (new.remaining ≡ old.remaining)

-- The field whose octets were appended from a place on is added.
abbrev pub AddsRead : FieldListBuilder → ℕ → ReadField → FieldListBuilder → Type 0
AddsRead builder start read new =
    (old : FieldListBuilder) (field : Field) → ReadsInto old field read builder
    → start ≡ length old.octets.items → Adds old field new

-- Where the builder represented fields, for whatever limit, it represents those and the last of
-- them once more.
abbrev pub AddsAgain : FieldListBuilder → FieldListBuilder → Type 0
AddsAgain old new = (list_limit : ℕ) (before : List Field) (field : Field)
    → RepresentsList list_limit (before ++ field ∷ []) old
    → RepresentsList list_limit ((before ++ field ∷ []) ++ field ∷ []) new
