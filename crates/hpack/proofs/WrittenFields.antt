-- One field as it is written: its octets encode it, and the table after it is within its maximum.
use Rattle.hpack.proofs.Names.{◌≡◌, inl, inr, ℕ, zero, suc, ◌+◌, ◌^◌, ◌<◌, ◌≤◌, ◌==◌, ◌&&◌, nat_lt}
use Rattle.hpack.proofs.Names.{if◌then◌else◌, Bool, true, false, List, [], ◌∷◌, length, Some, refl}
use Rattle.hpack.proofs.Names.{sym, ap, ◌∙◌, subst, arith, AllByRecursion, cases_lt, ne_eqb}
use Rattle.hpack.proofs.Names.{and_parts, IsOctet, all_ones, integer, string, string_encodes, Entry}
use Rattle.hpack.proofs.Names.{Field, Literal, WithIndexing, WithoutIndexing, NeverIndexed}
use Rattle.hpack.proofs.Names.{table_size, fit, entry, Entries, FirstOctet, Update, LiteralHead}
use Rattle.hpack.proofs.Names.{LiteralName, after_literal, is_sensitive, Step, by_index, by_literal}
use Rattle.hpack.proofs.Names.{same_octets, exact_index, name_index, Choice, indexed, literal}
use Rattle.hpack.proofs.Names.{choice, literal_head, encoding_of_field, after_choice}
use Rattle.std.proofs.Common.{pow_pos}
use Rattle.std.proofs.lemmas.Bool.{ltb-true}
use Rattle.hpack_text.proofs.IntegerWriting.{integer-short, integer-long, integer_encodes}
use Rattle.hpack.specs.Blocks.{Indexed}
use Rattle.hpack.proofs.WrittenTables.{fit_within, same_octets-true, least_index_found}
use Rattle.hpack.proofs.WrittenTables.{least_index_small}

-- An integer begins with the bits that are given above its prefix.
pub first_octet : (prefix_bits first_bits value : ℕ)
    → FirstOctet first_bits (first_bits + 2 ^ prefix_bits) (integer prefix_bits first_bits value)
first_octet prefix_bits first_bits value =
    elim (cases_lt value (all_ones prefix_bits)) [
      | inl short ↦
          subst (FirstOctet first_bits (first_bits + 2 ^ prefix_bits))
          (sym (integer-short prefix_bits first_bits value short)) (omega arith, omega arith)
      | inr long ↦
          subst (FirstOctet first_bits (first_bits + 2 ^ prefix_bits))
          (sym (integer-long prefix_bits first_bits value long))
          (omega arith, omega (arith, pow_pos prefix_bits))
    ]

-- what is written for an index
pub indexed_written : (index : ℕ) → index < 2 ^ 35 → Indexed index (integer 7 0x80 index)
indexed_written index small = (
  first_octet 7 0x80 index,
  integer_encodes 7 0x80 index (omega arith) (omega arith) refl small,
)

-- what is written for a size update
pub update_written : (maximum : ℕ) → maximum < 2 ^ 35 → Update maximum (integer 5 0x20 maximum)
update_written maximum small = (
  first_octet 5 0x20 maximum,
  integer_encodes 5 0x20 maximum (omega arith) (omega arith) refl small,
)

-- what is written for a literal's head
pub literal_head_written : (kind : Literal) (index : ℕ) → index < 2 ^ 35
    → LiteralHead kind index (literal_head kind index)
literal_head_written WithIndexing index small =
    (first_octet 6 0x40 index, integer_encodes 6 0x40 index (omega arith) (omega arith) refl small)
literal_head_written WithoutIndexing index small =
    (first_octet 4 0x00 index, integer_encodes 4 0x00 index (omega arith) (omega arith) refl small)
literal_head_written NeverIndexed index small =
    (first_octet 4 0x10 index, integer_encodes 4 0x10 index (omega arith) (omega arith) refl small)

-- The index names an entry with this name.
pub record HasName (entries : List Entry) (index : ℕ) (name : List ℕ) : Type 0 where
  pub value : List ℕ
  pub named : entry entries index ≡ Some (record { name = name; value = value })

-- what is written for a literal's name
pub literal_name_written : (entries : List Entry) (index : ℕ) (name : List ℕ)
    → AllByRecursion IsOctet name → length name < 2 ^ 35
    → (0 < index → HasName entries index name)
    → LiteralName entries index name (if index == 0 then string name else [])
literal_name_written entries zero name octets short has =
    inl (refl, string_encodes name octets short)
literal_name_written entries (suc place) name octets short has =
    let one = has (omega arith) in
    let other : suc place == 0 ≡ false = ne_eqb (suc place) 0 (λ same. omega (arith, same)) in
    subst (λ (b : Bool). LiteralName entries (suc place) name (if b then string name else []))
    (sym other) (inr (refl, (one.value, one.named)))

-- an entry of a name and a value
entry_of : List ℕ → List ℕ → Entry
entry_of name value = record { name = name; value = value }

-- The name's index, where it isn't 0, names an entry with the field's name.
pub name_index_names : (entries : List Entry) (field : Field) → 0 < name_index entries field
    → HasName entries (name_index entries field) field.name
unfolding entry_of
name_index_names entries field some =
    let at = least_index_found (λ one. same_octets one.name field.name) entries some in
    let same : at.found.name ≡ field.name = same_octets-true at.found.name field.name at.passes in
    record {
      value = at.found.value;
      named = at.named ∙ ap (λ (name : List ℕ). Some (entry_of name at.found.value)) same;
    }

-- The exact index, where it isn't 0, names the entry of the field's name and value.
pub exact_index_names : (entries : List Entry) (field : Field) → 0 < exact_index entries field
    → entry entries (exact_index entries field)
    ≡ Some (record { name = field.name; value = field.value })
unfolding entry_of
exact_index_names entries field some =
    let at = least_index_found (λ one. same_octets one.name field.name
    && same_octets one.value field.value) entries some in
    let both = and_parts (same_octets at.found.name field.name)
    (same_octets at.found.value field.value) at.passes in
    let name : at.found.name ≡ field.name = same_octets-true at.found.name field.name both.0 in
    let value : at.found.value ≡ field.value = same_octets-true at.found.value field.value both.1 in
    at.named ∙ ap (λ (one : List ℕ). Some (entry_of one at.found.value)) name
    ∙ ap (λ (one : List ℕ). Some (entry_of field.name one)) value

-- A table has this maximum, and is within it.
pub record IsTableOf (maximum : ℕ) (table : Entries) : Type 0 where
  pub same : table.maximum ≡ maximum
  pub within : table_size table.entries ≤ maximum

-- A field can be written: its name and value are octets, and few enough.
pub record IsWritable (field : Field) : Type 0 where
  pub name : AllByRecursion IsOctet field.name
  pub value : AllByRecursion IsOctet field.value
  pub short_name : length field.name < 2 ^ 35
  pub short_value : length field.value < 2 ^ 35

-- What is written by the choice encodes the field, and leads to the table of the choice.
abbrev pub Encodes : Entries → Field → Choice → Type 0
Encodes table field chosen = Step table (encoding_of_field chosen field) field
    (after_choice table chosen field)

-- a literal, of a kind that fits the field
literal_encodes : (maximum : ℕ) (table : Entries) (field : Field) (kind : Literal)
    → maximum < 2 ^ 32 → IsTableOf maximum table → IsWritable field
    → field.sensitive ≡ is_sensitive kind
    → Encodes table field (literal kind (name_index table.entries field))
literal_encodes maximum table field kind small is writable sensitive =
    let index : ℕ = name_index table.entries field in
    by_literal kind index (literal_head kind index) (if index == 0 then string field.name else [])
    (string field.value) refl
    (literal_head_written kind index (least_index_small _ table.entries maximum is.within small))
    (literal_name_written table.entries index field.name writable.name writable.short_name
    (name_index_names table.entries field))
    (string_encodes field.value writable.value writable.short_value) sensitive refl

-- the choice, by its tests
choice_encodes_by : (maximum : ℕ) (table : Entries) (field : Field) (sensitive exact large : Bool)
    → maximum < 2 ^ 32 → IsTableOf maximum table → IsWritable field
    → field.sensitive ≡ sensitive → nat_lt 0 (exact_index table.entries field) ≡ exact
    → Encodes table field (if sensitive then literal NeverIndexed (name_index table.entries field)
    else if exact then indexed (exact_index table.entries field)
    else if large then literal WithoutIndexing (name_index table.entries field)
    else literal WithIndexing (name_index table.entries field))
choice_encodes_by maximum table field true exact large small is writable sensitive found =
    literal_encodes maximum table field NeverIndexed small is writable sensitive
choice_encodes_by maximum table field false true large small is writable sensitive found =
    by_index (exact_index table.entries field) (indexed_written (exact_index table.entries field)
    (least_index_small _ table.entries maximum is.within small))
    (exact_index_names table.entries field (ltb-true 0 (exact_index table.entries field) found))
    sensitive refl
choice_encodes_by maximum table field false false true small is writable sensitive found =
    literal_encodes maximum table field WithoutIndexing small is writable sensitive
choice_encodes_by maximum table field false false false small is writable sensitive found =
    literal_encodes maximum table field WithIndexing small is writable sensitive

-- What is written for a field encodes it.
pub choice_encodes : (maximum : ℕ) (table : Entries) (field : Field) → maximum < 2 ^ 32
    → IsTableOf maximum table → IsWritable field → Encodes table field (choice table field)
unfolding choice
choice_encodes maximum table field small is writable =
    choice_encodes_by maximum table field field.sensitive
    (nat_lt 0 (exact_index table.entries field))
    (nat_lt table.maximum (length field.name + length field.value + 32)) small is writable refl refl

-- After a literal the table is within its maximum.
literal_preserves : (maximum : ℕ) (table : Entries) (kind : Literal) (one : Entry)
    → IsTableOf maximum table → IsTableOf maximum (after_literal kind table one)
literal_preserves maximum table WithIndexing one is =
    let left : table_size (fit (one ∷ table.entries) table.maximum) ≤ table.maximum =
    fit_within (one ∷ table.entries) table.maximum in
    let same = is.same in
    record { same = same; within = omega (arith, left, same) }
literal_preserves maximum table WithoutIndexing one is = is
literal_preserves maximum table NeverIndexed one is = is

-- After a field the table is within its maximum.
pub choice_preserves : (maximum : ℕ) (table : Entries) (chosen : Choice) (field : Field)
    → IsTableOf maximum table → IsTableOf maximum (after_choice table chosen field)
choice_preserves maximum table (indexed index) field is = is
choice_preserves maximum table (literal kind index) field is =
    literal_preserves maximum table kind (record { name = field.name; value = field.value }) is
