-- A field block leaves a table within its maximum, and that within the limit.
use Rattle.h2_laws_machine.proofs.Names.{Block, ◌≡◌, ℕ, ◌≤◌, List, [], ◌∷◌, refl, sym, subst, arith}
use Rattle.h2_laws_machine.proofs.Names.{table_size, Entries, Field}
use Rattle.hpack.proofs.WrittenTables.{fit_within}
use Rattle.hpack.specs.Blocks.{Step, by_index, by_literal, Fields, Updates, after_literal}
use Rattle.hpack.specs.declared.types.entry.Entry.{Entry}
use Rattle.hpack.specs.declared.types.literal.Literal.{Literal}
use Rattle.hpack.specs.declared.types.literal.Literal.TheVariants.{WithIndexing, WithoutIndexing}
use Rattle.hpack.specs.declared.types.literal.Literal.TheVariants.{NeverIndexed}
use Rattle.hpack.specs.Tables.{resized}

-- A table has this maximum and is within it.
pub record IsWithin (table : Entries) (maximum : ℕ) : Type 0 where
  pub same : table.maximum ≡ maximum
  pub size : table_size table.entries ≤ maximum

-- A literal leaves a table within its maximum.
pub literal_within : (kind : Literal) (table : Entries) (maximum : ℕ) (new : Entry)
    → IsWithin table maximum → IsWithin (after_literal kind table new) maximum
literal_within WithIndexing table maximum new h = record {
  same = h.same;
  size = omega (arith, h.same, fit_within (new ∷ table.entries) table.maximum);
}
literal_within WithoutIndexing table maximum new h = h
literal_within NeverIndexed table maximum new h = h

-- So does each field.
pub step_within : (table : Entries) (octets : List ℕ) (field : Field) (after : Entries)
    (maximum : ℕ)
    → Step table octets field after → IsWithin table maximum → IsWithin after maximum
step_within table octets field after maximum (by_index index encoded found plain same) h =
    subst (λ (t : Entries). IsWithin t maximum) (sym same) h
step_within table octets field after maximum
    (by_literal kind index head name value joined headed named valued sensitive same) h =
    subst (λ (t : Entries). IsWithin t maximum) (sym same)
    (literal_within kind table maximum (record { name = field.name; value = field.value }) h)

-- So do the fields of a block.
pub fields_within : (table : Entries) (octets : List ℕ) (fields : List Field) (after : Entries)
    (maximum : ℕ) → Fields table octets fields after → IsWithin table maximum
    → IsWithin after maximum
fields_within table octets [] after maximum encoded h =
    subst (λ (t : Entries). IsWithin t maximum) (sym encoded.1) h
fields_within table octets (field ∷ fields) after maximum encoded h =
    fields_within encoded.2 encoded.1 fields after maximum encoded.5
    (step_within table encoded.0 field encoded.2 maximum encoded.4 h)

-- Updates leave a table within its maximum.
pub updates_within : (limit : ℕ) (table : Entries) (octets maxima : List ℕ) (after : Entries)
    (others : List ℕ) → Updates limit table octets maxima after others
    → IsWithin table table.maximum → IsWithin after after.maximum
updates_within limit table octets [] after others updates h =
    subst (λ (t : Entries). IsWithin t t.maximum) (sym updates.0) h
updates_within limit table octets (maximum ∷ maxima) after others updates h =
    updates_within limit (resized table maximum) updates.1 maxima after others updates.5
    (record { same = refl; size = fit_within table.entries maximum })

-- A field block leaves a table within its maximum, and that within the limit.
pub block_within : (table : Entries) (limit : ℕ) (octets : List ℕ) (fields : List Field)
    (after : Entries) → Block table limit octets fields after
    → table_size table.entries ≤ table.maximum
    → (table_size after.entries ≤ after.maximum) × (after.maximum ≤ limit)
block_within table limit octets fields after b within =
    let updated : IsWithin b.updated b.updated.maximum = updates_within limit table octets b.maxima
    b.updated b.others b.updates (record { same = refl; size = within }) in
    let last : IsWithin after b.updated.maximum = fields_within b.updated b.others _ _
    b.updated.maximum b.encoded updated in
    (omega (arith, last.same, last.size), omega (arith, last.same, b.within))
