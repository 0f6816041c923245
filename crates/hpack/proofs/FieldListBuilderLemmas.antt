-- Building a list of fields: what is represented before and after a field is added.
use Rattle.hpack.proofs.Names.{◌≡◌, ℕ, ◌+◌, ◌-◌, ◌^◌, ◌<◌, ◌≤◌, min, Bool, List, [], ◌∷◌, ◌++◌}
use Rattle.hpack.proofs.Names.{length, Option, Some, None, refl, sym, ap, ap₂, ◌∙◌, subst, arith}
use Rattle.hpack.proofs.Names.{length-append, sum_by-append, Field, FieldPlace, ReadField}
use Rattle.hpack.proofs.Names.{AreWithin, IsWithin, field_of, fields_of, octets_between, list_size}
use Rattle.std.proofs.lemmas.List.{map-append}
use Rattle.std.specs.Option.{unwrap_or}
use Rattle.hpack.specs.declared.decode.field_list_builder.FieldListBuilder.{FieldListBuilder}
use Rattle.hpack.specs.FieldListBuilder.{Adds, AddsRead, ReadsInto, RepresentsList}
use Rattle.hpack.proofs.FieldListLemmas.{are_between, fields_of-more, within-append, within-more}

-- the size of a list with one field more
pub list_size-more : (fields : List Field) (field : Field)
    → list_size (fields ++ field ∷ [])
    ≡ list_size fields + (length field.name + length field.value + 32)
list_size-more fields field =
    let more = sum_by-append (λ (one : Field). length one.name + length one.value + 32) fields
    (field ∷ []) in
    omega (arith, more)

-- A value that is there isn't missing.
pub none_is_some : (x : Option ℕ) (n : ℕ) → x ≡ None → x ≡ Some n → ⊥
none_is_some None n e f = cc
none_is_some (Some m) n e f = cc

-- In the beginning there is no field.
pub represents_none : (builder : FieldListBuilder) (list_limit : ℕ) → builder.places.items ≡ []
    → builder.remaining ≡ Some list_limit → RepresentsList list_limit [] builder
represents_none builder list_limit places remaining = record {
  within = subst (AreWithin builder.octets.items) (sym places) tt;
  whole = λ n e. (
    ap (fields_of builder.octets.items) places,
    let same : n ≡ list_limit = ap (λ (o : Option ℕ). unwrap_or o 0) (sym e ∙ remaining) in
        omega (arith, same),
  );
  too_large = λ e. absurd (none_is_some builder.remaining list_limit e remaining);
}

-- A list that isn't kept is too large.
pub represents_too_large : (builder : FieldListBuilder) (list_limit : ℕ) (fields : List Field)
    → builder.places.items ≡ [] → builder.remaining ≡ None → list_limit < list_size fields
    → RepresentsList list_limit fields builder
represents_too_large builder list_limit fields places remaining above = record {
  within = subst (AreWithin builder.octets.items) (sym places) tt;
  whole = λ n e. absurd (none_is_some builder.remaining n remaining e);
  too_large = λ e. (places, above);
}

-- A list that is too large is so with one field more.
pub too_large_stays : (old new : FieldListBuilder) (field : Field) → old.remaining ≡ None
    → new.places ≡ old.places → new.remaining ≡ old.remaining → Adds old field new
too_large_stays old new field large places remaining list_limit fields has =
    let (empty, above) = has.too_large large in
    represents_too_large new list_limit (fields ++ field ∷ [])
    (ap (λ p. p.items) places ∙ empty) (remaining ∙ large)
    (omega (arith, above, list_size-more fields field))

-- the size of a field whose octets were appended, as it is computed
pub record IsSize (field : Field) (size : ℕ) : Type 0 where
  pub computed : size ≡ min (length field.name + length field.value + 32) (2 ^ 64 - 1)

-- the size of what was read
size_read : (old builder : FieldListBuilder) (field : Field) (read : ReadField) (start size : ℕ)
    → ReadsInto old field read builder → start ≡ length old.octets.items
    → size ≡ min (length (octets_between builder.octets.items start (start + read.name_len))
    + length (octets_between builder.octets.items (start + read.name_len)
    (length builder.octets.items)) + 32) (2 ^ 64 - 1)
    → IsSize field size
size_read old builder field read start size reads starts computed =
    let slices = are_between old.octets.items builder.octets.items field.name field.value start
    read.name_len (length builder.octets.items) reads.0.joined starts reads.0.named refl in
    record {
      computed = computed
          ∙ ap₂ (λ (n v : List ℕ). min (length n + length v + 32) (2 ^ 64 - 1)) slices.name_there
          slices.value_there;
    }

-- the field at the place of what was read
field_read : (old builder : FieldListBuilder) (field : Field) (read : ReadField) (start end : ℕ)
    → ReadsInto old field read builder → start ≡ length old.octets.items
    → end ≡ length builder.octets.items
    → field_of builder.octets.items (record {
      start = start;
      name_end = start + read.name_len;
      value_end = end;
      sensitive = read.sensitive;
    }) ≡ field
unfolding field_of
field_read old builder field read start end reads starts ends =
    let slices = are_between old.octets.items builder.octets.items field.name field.value start
    read.name_len end reads.0.joined starts reads.0.named ends in
    ap₂ (λ (name value : List ℕ). record {
      name = name;
      value = value;
      sensitive = read.sensitive;
    }) slices.name_there slices.value_there
    ∙ ap (λ (marked : Bool). record {
      name = field.name;
      value = field.value;
      sensitive = marked;
    }) reads.0.marked

-- What remains and isn't 0 is there.
some_of : (x : Option ℕ) (n : ℕ) → n ≡ unwrap_or x 0 → 0 < n → x ≡ Some n
some_of None n e more = absurd (omega (arith, e))
some_of (Some m) n e more = ap Some (sym e)

-- A field that was read and that the limit has room for is added.
pub read_within_limit : (builder new : FieldListBuilder) (read : ReadField)
    (start size remaining end : ℕ)
    → size ≡ min (length (octets_between builder.octets.items start (start + read.name_len))
    + length (octets_between builder.octets.items (start + read.name_len)
    (length builder.octets.items)) + 32) (2 ^ 64 - 1)
    → remaining ≡ unwrap_or builder.remaining 0 → size ≤ remaining → remaining < 2 ^ 32
    → end ≡ length builder.octets.items → new.octets.items ≡ builder.octets.items
    → new.places.items ≡ builder.places.items ++ (record {
      start = start;
      name_end = start + read.name_len;
      value_end = end;
      sensitive = read.sensitive;
    }) ∷ []
    → new.remaining ≡ Some (remaining - size) → AddsRead builder start read new
read_within_limit builder new read start size remaining end computed remains fits small ends octets
    places left old field reads starts list_limit fields has =
    let one : FieldPlace = record {
      start = start;
      name_end = start + read.name_len;
      value_end = end;
      sensitive = read.sensitive;
    } in
    let is_size = size_read old builder field read start size reads starts computed in
    let kept : builder.remaining ≡ Some remaining =
    some_of builder.remaining remaining remains (omega (arith, is_size.computed)) in
    let (same, sum) = has.whole remaining (sym reads.2 ∙ kept) in
    let before : builder.places.items ≡ old.places.items = ap (λ p. p.items) reads.1 in
    let grown : length builder.octets.items ≡ length old.octets.items + (length field.name
    + length field.value) = ap (λ (xs : List ℕ). length xs) reads.0.joined
    ∙ (length-append old.octets.items (field.name ++ field.value)
    ∙ ap (λ (n : ℕ). length old.octets.items + n) (length-append field.name field.value)) in
    let within_before : AreWithin builder.octets.items builder.places.items =
    rw (before, reads.0.joined)
    (within-more old.octets.items (field.name ++ field.value) old.places.items has.within) in
    let within_one : IsWithin (length builder.octets.items) one = record {
      name = omega arith;
      value = omega (arith, ends, grown, starts, reads.0.named);
      end = omega (arith, ends);
    } in
    let fields_before : fields_of builder.octets.items builder.places.items ≡ fields =
    rw (before, reads.0.joined)
    (fields_of-more old.octets.items (field.name ++ field.value) old.places.items has.within ∙ same)
    in
    let fields_now :
    fields_of builder.octets.items (builder.places.items ++ one ∷ []) ≡ fields ++ field ∷ [] =
    map-append (field_of builder.octets.items) builder.places.items (one ∷ [])
    ∙ ap₂ (λ (fs : List Field) (f : Field). fs ++ f ∷ []) fields_before
    (field_read old builder field read start end reads starts ends) in
    record {
      within = rw (octets, places)
          (within-append builder.octets.items builder.places.items (one ∷ []) within_before
          (within_one, tt));
      whole = λ n e.
          let same_left : n ≡ remaining - size =
          ap (λ (o : Option ℕ). unwrap_or o 0) (sym e ∙ left) in (
            rw (octets, places) fields_now,
            omega (arith, same_left, sum, fits, is_size.computed, list_size-more fields field),
          );
      too_large = λ e. absurd (none_is_some new.remaining (remaining - size) e left);
    }
