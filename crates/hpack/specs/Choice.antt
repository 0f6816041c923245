-- What the encoder writes: its choices, as functions (RFC 7541 leaves them open).
-- contract: hpack::Encoder::encode
use Rattle.std.specs.Prelude.{ℕ, suc, ◌+◌, ◌==◌, nat_lt, if◌then◌else◌, ◌&&◌, Bool, true, false}
use Rattle.std.specs.Prelude.{List, [], ◌∷◌, ◌++◌, length, position, fold, flat_map, sum_by}
use Rattle.std.specs.Option.{option_map_or}
use Rattle.hpack_text.specs.Integers.{integer}
use Rattle.hpack_text.specs.Strings.{string}
use Rattle.hpack.specs.Entry.{Entry}
use Rattle.hpack.specs.declared.types.field.Field.{Field}
use Rattle.hpack.specs.declared.types.literal.Literal.{Literal}
use Rattle.hpack.specs.declared.types.literal.Literal.TheVariants.{WithIndexing, WithoutIndexing}
use Rattle.hpack.specs.declared.types.literal.Literal.TheVariants.{NeverIndexed}
use Rattle.hpack.specs.Static.{static_entries}
use Rattle.hpack.specs.Tables.{Entries, resized}
use Rattle.hpack.specs.Blocks.{after_literal}
use Rattle.hpack.specs.Lists.{EncoderState}

abbrev pub same_octets : List ℕ → List ℕ → Bool
same_octets [] [] = true
same_octets [] (y ∷ ys) = false
same_octets (x ∷ xs) [] = false
same_octets (x ∷ xs) (y ∷ ys) = (x == y) && same_octets xs ys

-- the least index whose entry passes, or 0 where none does
-- rule: HPACK 6.1 (own) A field with an exact entry is its least index
unfoldable pub least_index : (Entry → Bool) → List Entry → ℕ
least_index test entries = option_map_or suc (position test (static_entries ++ entries)) 0

-- the least index of an entry with the field's name and value, or 0
-- rule: HPACK 6.1 (own) A field with an exact entry is its least index
abbrev pub exact_index : List Entry → Field → ℕ
exact_index entries field = least_index
    (λ one. same_octets one.name field.name && same_octets one.value field.value) entries

-- the least index of an entry with the field's name, or 0
-- rule: HPACK 6.2 (own) A literal is encoded with the least index of its name
abbrev pub name_index : List Entry → Field → ℕ
name_index entries field = least_index (λ one. same_octets one.name field.name) entries

-- how a field is written
pub data Choice : Type 0 where
  indexed : (index : ℕ) → Choice
  literal : (kind : Literal) (index : ℕ) → Choice

-- A sensitive field is never indexed. Otherwise an exact entry gives its index; a field that is
-- larger than the maximum isn't added, and any other is.
-- rule: HPACK 6.1 (own) A field with an exact entry is its least index
-- rule: HPACK 6.2.3 A sensitive field is never indexed
-- rule: HPACK 6.2.1 (own) Any other field is added to the table
-- rule: HPACK 6.2.2 (own) A field larger than the maximum is not added
unfoldable pub choice : Entries → Field → Choice
choice table field =
    if field.sensitive then literal NeverIndexed (name_index table.entries field)
    else if nat_lt 0 (exact_index table.entries field)
    then indexed (exact_index table.entries field)
    else if nat_lt table.maximum (length field.name + length field.value + 32)
    then literal WithoutIndexing (name_index table.entries field)
    else literal WithIndexing (name_index table.entries field)

-- the octets of a literal's head
-- rule: HPACK 6.2 (own) A literal is encoded with the least index of its name
abbrev pub literal_head : Literal → ℕ → List ℕ
literal_head WithIndexing index = integer 6 0x40 index
literal_head WithoutIndexing index = integer 4 0x00 index
literal_head NeverIndexed index = integer 4 0x10 index

-- the octets of a field, as it is written
-- rule: HPACK 6.2 (own) A literal is encoded with the least index of its name
abbrev pub encoding_of_field : Choice → Field → List ℕ
encoding_of_field (indexed index) field = integer 7 0x80 index
encoding_of_field (literal kind index) field =
    literal_head kind index ++ ((if index == 0 then string field.name else [])
    ++ string field.value)

-- the table after a field
-- rule: HPACK 6.2.1 (own) Any other field is added to the table
abbrev pub after_choice : Entries → Choice → Field → Entries
after_choice table (indexed index) field = table
after_choice table (literal kind index) field =
    after_literal kind table (record { name = field.name; value = field.value })

-- the octets of fields, one after another
unfoldable pub encoding_of_fields : Entries → List Field → List ℕ
encoding_of_fields table [] = []
encoding_of_fields table (field ∷ fields) =
    encoding_of_field (choice table field) field
    ++ encoding_of_fields (after_choice table (choice table field) field) fields

-- the table after fields
unfoldable pub after_fields : Entries → List Field → Entries
after_fields table [] = table
after_fields table (field ∷ fields) =
    after_fields (after_choice table (choice table field) field) fields

-- The updates at a block's beginning. Where the limit fell below the maximum since the last block,
-- one to the least limit, and one to the limit now if that is another; where it didn't and is above
-- the maximum, one to it.
-- rule: HPACK 4.2 After the limit fell a block begins with one update or two
-- rule: HPACK 4.2 After the limit only rose the block begins with one update to it
unfoldable pub size_updates : EncoderState → List ℕ
size_updates state =
    if nat_lt state.least state.table.maximum
    then state.least ∷ (if state.limit == state.least then [] else state.limit ∷ [])
    else if nat_lt state.table.maximum state.limit then state.limit ∷ []
    else []

-- the table after updates
abbrev pub after_updates : Entries → List ℕ → Entries
after_updates table maxima = fold resized table maxima

-- the octets of a complete block
-- rule: HPACK 3.1 What is encoded is a block of the list
unfoldable pub block_of : EncoderState → List Field → List ℕ
block_of state fields = flat_map (integer 5 0x20) (size_updates state)
    ++ encoding_of_fields (after_updates state.table (size_updates state)) fields

-- the encoder after a block
-- rule: HPACK 3.1 What is encoded is a block of the list
unfoldable pub after_block : EncoderState → List Field → EncoderState
after_block state fields =
    record {
      table = after_fields (after_updates state.table (size_updates state)) fields;
      least =
          state.limit;
      limit = state.limit;
    }

-- The most octets of a block of the fields: for each its name, its value and three integers, and
-- two updates. An integer has at most six octets.
-- rule: HPACK 3.1 What is encoded is a block of the list
abbrev pub most_octets : List Field → ℕ
most_octets fields = sum_by (λ field. length field.name + length field.value + 18) fields + 12
