-- Lists of fields by their places.
use Rattle.hpack.proofs.Names.{Bool, ◌≡◌, ℕ, suc, ◌+◌, ◌-◌, ◌<◌, ◌≤◌, List, [], ◌∷◌, ◌++◌, length}
use Rattle.hpack.proofs.Names.{take, drop, get_or, Some, refl, sym, ap, ap₂, ◌∙◌, arith}
use Rattle.hpack.proofs.Names.{append_assoc, length-append, length-drop, slice_get-get_or}
use Rattle.hpack.proofs.Names.{slice_get, option_map, Field, FieldPlace, ReadField, AreWithin}
use Rattle.hpack.proofs.Names.{IsWithin, field_of, fields_of, octets_between}
use Rattle.std.proofs.lemmas.List.{take-append-le, drop-append-le}
use Rattle.std.proofs.lemmas.Option.{slice_get-map}
use Rattle.std.proofs.Math.Seq.{drop-append_seam, take-append_seam, take-length}
use Rattle.std.specs.Prelude.{if◌then◌else◌}
use Rattle.std.specs.Str.{bytes_eq}
use Rattle.hpack.specs.FieldLists.{is_named, value_of}
use Rattle.hpack.specs.FieldListBuilder.{AppendsField}

-- as many fields as places
pub length-fields_of : (octets : List ℕ) (places : List FieldPlace)
    → length (fields_of octets places) ≡ length places
length-fields_of octets [] = refl
length-fields_of octets (place ∷ places) = ap suc (length-fields_of octets places)

module _ (octets : List ℕ) where
  -- the field at a place of a list
  pub fields_of-at : (places : List FieldPlace) (i : ℕ) (other : FieldPlace) → i < length places
      → slice_get (fields_of octets places) i ≡ Some (field_of octets (get_or places i other))
  fields_of-at places i other lt = slice_get-map (field_of octets) places i
      ∙ ap (option_map (field_of octets)) (slice_get-get_or places i other lt)

  -- Octets between two places stay where others are appended.
  between-more : (more : List ℕ) (start end : ℕ) → start ≤ end → end ≤ length octets
      → octets_between (octets ++ more) start end ≡ octets_between octets start end
  between-more more start end ordered within =
      ap (take (end - start)) (drop-append-le start octets more (omega arith)) ∙ take-append-le
      (end - start) (drop start octets) more (omega (arith, length-drop start octets))

  -- A field stays where octets are appended.
  field_of-more : (more : List ℕ) (place : FieldPlace) → IsWithin (length octets) place
      → field_of (octets ++ more) place ≡ field_of octets place
  unfolding field_of
  field_of-more more place within =
      ap₂ (λ (name value : List ℕ). record {
        name = name;
        value = value;
        sensitive = place.sensitive;
      }) (between-more more place.start place.name_end within.name
      (omega (arith, within.value, within.end)))
      (between-more more place.name_end place.value_end within.value within.end)

  -- Fields stay where octets are appended.
  pub fields_of-more : (more : List ℕ) (places : List FieldPlace) → AreWithin octets places
      → fields_of (octets ++ more) places ≡ fields_of octets places
  fields_of-more more [] all = refl
  fields_of-more more (place ∷ places) all =
      ap₂ (λ (f : Field) (fs : List Field). f ∷ fs) (field_of-more more place all.0)
      (fields_of-more more places all.1)

  -- A place is among octets, and among more of them.
  pub within-more : (more : List ℕ) (places : List FieldPlace) → AreWithin octets places
      → AreWithin (octets ++ more) places
  within-more more [] all = tt
  within-more more (place ∷ places) all = (
    record {
      name = all.0.name;
      value = all.0.value;
      end = omega (arith, all.0.end, length-append octets more);
    },
    within-more more places all.1,
  )

  -- All of two lists of places are within.
  pub within-append : (places more : List FieldPlace) → AreWithin octets places
      → AreWithin octets more → AreWithin octets (places ++ more)
  within-append [] more all others = others
  within-append (place ∷ places) more all others = (all.0, within-append places more all.1 others)

-- the octets of a name and a value that were appended
name_between : (before name value : List ℕ)
    → octets_between (before ++ (name ++ value)) (length before) (length before + length name)
    ≡ name
name_between before name value =
    let count : length before + length name - length before ≡ length name = omega arith in
    ap₂ (λ (n : ℕ) (xs : List ℕ). take n xs) count (drop-append_seam before (name ++ value))
    ∙ take-append_seam name value

-- the octets of a value that was appended after its name
value_between : (before name value : List ℕ)
    → octets_between (before ++ (name ++ value)) (length before + length name)
    (length (before ++ (name ++ value))) ≡ value
value_between before name value =
    let front : length (before ++ name) ≡ length before + length name = length-append before name in
    let whole : length (before ++ (name ++ value)) ≡ length before + (length name + length value) =
    length-append before (name ++ value)
    ∙ ap (λ (n : ℕ). length before + n) (length-append name value)
    in
    let count : length (before ++ (name ++ value)) - (length before + length name) ≡ length value =
    omega (arith, whole) in
    let after : drop (length before + length name) (before ++ (name ++ value)) ≡ value =
    ap₂ (λ (n : ℕ) (xs : List ℕ). drop n xs) (sym front) (sym (append_assoc before name value))
    ∙ drop-append_seam (before ++ name) value in
    ap₂ (λ (n : ℕ) (xs : List ℕ). take n xs) count after ∙ take-length value

-- the octets of a name and a value that were appended, by where they start and end
pub record AreBetween (octets name value : List ℕ) (start name_end end : ℕ) : Type 0 where
  pub name_there : octets_between octets start name_end ≡ name
  pub value_there : octets_between octets name_end end ≡ value

pub are_between : (before octets name value : List ℕ) (start name_len end : ℕ)
    → octets ≡ before ++ (name ++ value) → start ≡ length before → name_len ≡ length name
    → end ≡ length octets → AreBetween octets name value start (start + name_len) end
are_between before octets name value start name_len end joined starts named ends =
    let at_end : end ≡ length (before ++ (name ++ value)) =
    ends ∙ ap (λ (xs : List ℕ). length xs) joined in
    record {
      name_there = rw (joined, starts, named) (name_between before name value);
      value_there = rw (at_end, joined, starts, named) (value_between before name value);
    }

-- the octets of a name and a value that were appended together
pub joined_after : (before octets name value : List ℕ) (start : ℕ)
    → octets ≡ before ++ (name ++ value) → start ≡ length before
    → octets_between octets start (length octets) ≡ name ++ value
joined_after before octets name value start joined starts =
    let after : drop start octets ≡ name ++ value =
    rw (joined, starts) (drop-append_seam before (name ++ value)) in
    let count : length octets - start ≡ length (name ++ value) = omega (
      arith,
      starts,
      ap (λ (xs : List ℕ). length xs) joined,
      length-append before (name ++ value),
    ) in
    ap₂ (λ (n : ℕ) (xs : List ℕ). take n xs) count after ∙ take-length (name ++ value)

-- A name and a value, by their octets together.
pub halves_of : (name value octets : List ℕ) (name_len : ℕ) → octets ≡ name ++ value
    → name_len ≡ length name → (take name_len octets ≡ name) × (drop name_len octets ≡ value)
halves_of name value octets name_len joined named = (
  rw (joined, named) (take-append_seam name value),
  rw (joined, named) (drop-append_seam name value),
)

-- A field whose octets are alone in a vector is its first octets and the others.
pub read_alone : (old new : List ℕ) (field : Field) (read : ReadField)
    → AppendsField old new field read → old ≡ []
    → ◌≡◌ {A = Field} (record {
      name = take read.name_len new;
      value = drop read.name_len new;
      sensitive = read.sensitive;
    }) field
read_alone old new field read appended empty =
    let alone : new ≡ field.name ++ field.value =
    appended.joined ∙ ap (λ (xs : List ℕ). xs ++ (field.name ++ field.value)) empty in
    let name = ap₂ (λ (n : ℕ) (xs : List ℕ). take n xs) appended.named alone
    ∙ take-append_seam field.name field.value in
    let value = ap₂ (λ (n : ℕ) (xs : List ℕ). drop n xs) appended.named alone
    ∙ drop-append_seam field.name field.value in
    ap₂ (λ (n v : List ℕ). record { name = n; value = v; sensitive = read.sensitive }) name value
    ∙ ap (λ (marked : Bool). record {
      name = field.name;
      value = field.value;
      sensitive = marked;
    }) appended.marked

-- The value of the first field with a name is that of the first of all, or is among the others.
pub value_first : (name : List ℕ) (fields : List Field) (field : Field) (others : List Field)
    {named : Bool} → fields ≡ field ∷ others → bytes_eq field.name name ≡ named
    → value_of name fields ≡ (if named then Some field.value else value_of name others)
unfolding value_of is_named
value_first name fields field others {named} first same =
    ap (value_of name) first
    ∙ ap (λ (b : Bool). if b then Some field.value else value_of name others) same
