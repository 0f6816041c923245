-- Fields of a block that are encoded by the same octet as those before them.
use Rattle.std.specs.Prelude.{◌≡◌, ◌⊎◌, ℕ, ◌≤◌, List, [], ◌∷◌, ◌++◌}
use Rattle.hpack.specs.declared.types.field.Field.{Field}
use Rattle.hpack.specs.declared.decode.field_list_builder.FieldListBuilder.{FieldListBuilder}
use Rattle.hpack.specs.Blocks.{Step}
use Rattle.hpack.specs.FieldListBuilder.{RepresentsList}
use Rattle.hpack.specs.Tables.{Entries}

-- The octet alone encodes the last of the fields at the table, and leaves the table as it is; or
-- the number is none of an octet.
abbrev pub IsRepeatable : ℕ → Entries → List Field → Type 0
IsRepeatable octet table done = (0x100 ≤ octet)
    ⊎ ((before : List Field) × (field : Field) × (done ≡ before ++ field ∷ [])
    × Step table (octet ∷ []) field table)

-- The octets encode one field more, which was added to the fields that the builder represented,
-- and with which an octet can be repeated.
pub record AddsNext (table : Entries) (octets : List ℕ) (old : FieldListBuilder)
    (done : List Field) (octet : ℕ) (after : Entries) (new : FieldListBuilder) : Type 0 where
  pub field : Field
  pub step : Step table octets field after
  pub added : (list_limit : ℕ) → RepresentsList list_limit done old
      → RepresentsList list_limit (done ++ field ∷ []) new
  pub repeatable : IsRepeatable octet after (done ++ field ∷ [])
