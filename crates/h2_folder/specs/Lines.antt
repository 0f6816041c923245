-- The conditions of a request, each in one field line or in several.
use Rattle.std.specs.Prelude.{ℕ, List, [], ◌∷◌, ◌++◌, codes, Option, Some, None, option_map}
use Rattle.std.specs.Prelude.{if◌then◌else◌, Bool, ◌||◌}
use Rattle.std.specs.Str.{bytes_eq}
use Rattle.hpack.specs.FieldLists.{is_named}
use Rattle.hpack.specs.declared.types.field.Field.{Field}
use Rattle.h2_files.specs.Conditions.{Asked}
use Rattle.h2_folder.specs.declared.lines.Lines.{Lines}

-- a value with one more line
abbrev pub with_line : (value : Option (List ℕ)) → (line : List ℕ) → List ℕ
with_line None line = line
with_line (Some value) line = value ++ codes ", " ++ line

-- a value with the lines of a name that follow
unfoldable pub joined_on : (value : Option (List ℕ)) → (name : List ℕ) → List Field
    → Option (List ℕ)
joined_on value name [] = value
joined_on value name (field ∷ fields) =
    if is_named name field then joined_on (Some (with_line value field.value)) name fields
    else joined_on value name fields

-- The values of the fields with a name, in order, joined by commas; none where there is none (RFC
-- 9110, section 5.3).
-- rule: HTTP 5.3 A field in several lines has their values, joined by commas
abbrev pub joined_value : (name : List ℕ) → List Field → Option (List ℕ)
joined_value name list = joined_on None name list

-- the conditions of a request, and its range
abbrev pub asked_in : List Field → Asked
asked_in list = record {
  if_match = joined_value (codes "if-match") list;
  if_unmodified_since = joined_value (codes "if-unmodified-since") list;
  if_none_match = joined_value (codes "if-none-match") list;
  if_modified_since = joined_value (codes "if-modified-since") list;
  range = joined_value (codes "range") list;
  if_range = joined_value (codes "if-range") list;
}

-- no conditions, and no range
abbrev pub no_asked : Asked
no_asked = record {
  if_match = None;
  if_unmodified_since = None;
  if_none_match = None;
  if_modified_since = None;
  range = None;
  if_range = None;
}

-- A field with this name is one of them.
-- rule: files (own) What a small file had in a second is answered in that second alone
abbrev pub is_condition : (name : List ℕ) → Bool
is_condition name =
    bytes_eq name (codes "if-match") || bytes_eq name (codes "if-unmodified-since")
    || bytes_eq name (codes "if-none-match") || bytes_eq name (codes "if-modified-since")
    || bytes_eq name (codes "range") || bytes_eq name (codes "if-range")

-- those that are kept
abbrev pub asked_by_lines : Lines → Asked
asked_by_lines lines = record {
  if_match = option_map (λ value. value.items) lines.if_match;
  if_unmodified_since = option_map (λ value. value.items) lines.if_unmodified_since;
  if_none_match = option_map (λ value. value.items) lines.if_none_match;
  if_modified_since = option_map (λ value. value.items) lines.if_modified_since;
  range = option_map (λ value. value.items) lines.range;
  if_range = option_map (λ value. value.items) lines.if_range;
}
