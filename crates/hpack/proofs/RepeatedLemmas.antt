-- Fields of a block that are encoded by the same octet as those before them.
use Rattle.hpack.proofs.Names.{◌≡◌, ℕ, suc, ◌+◌, ◌-◌, ◌^◌, ◌<◌, ◌≤◌, inl, inr, min, List, []}
use Rattle.hpack.proofs.Names.{◌∷◌, ◌++◌, length, take, drop, get_or, Option, Some, None, refl, sym}
use Rattle.hpack.proofs.Names.{ap, ◌∙◌, subst, arith, length-append, length-take-le, length-drop}
use Rattle.hpack.proofs.Names.{slice_get, Entries, Field, FieldPlace, Step}
use Rattle.hpack.proofs.Names.{by_index, by_literal, FirstOctet, LiteralHead, AreWithin, IsWithin}
use Rattle.hpack.proofs.Names.{field_of, fields_of, octets_between}
use Rattle.hpack.proofs.Names.{WithIndexing, WithoutIndexing, NeverIndexed, Literal}
use Rattle.std.specs.Option.{unwrap_or}
use Rattle.std.proofs.lemmas.List.{map-append}
use Rattle.hpack.specs.declared.decode.field_list_builder.FieldListBuilder.{FieldListBuilder}
use Rattle.hpack.specs.FieldListBuilder.{Adds, AddsAgain, RepresentsList}
use Rattle.hpack.specs.Repeated.{IsRepeatable, AddsNext}
use Rattle.hpack.proofs.StepLemmas.{step_long}
use Rattle.hpack.proofs.FieldListLemmas.{within-append}
use Rattle.hpack.proofs.FieldListBuilderLemmas.{list_size-more, none_is_some, represents_too_large}

-- the first octet of a literal's head
literal_low : (kind : Literal) (index : ℕ) (head : List ℕ) → LiteralHead kind index head
    → FirstOctet 0 0x80 head
literal_low WithIndexing index (x ∷ head) h = (omega arith, omega (arith, h.0.1))
literal_low WithoutIndexing index (x ∷ head) h = (omega arith, omega (arith, h.0.1))
literal_low NeverIndexed index (x ∷ head) h = (omega arith, omega (arith, h.0.1))
literal_low WithIndexing index [] h = absurd h.0
literal_low WithoutIndexing index [] h = absurd h.0
literal_low NeverIndexed index [] h = absurd h.0

-- A first octet below another one is below it.
first_below : (octet low high : ℕ) (octets head more : List ℕ) → octets ≡ octet ∷ []
    → octets ≡ head ++ more → FirstOctet low high head → octet < high
first_below octet low high octets [] more e joined h = absurd h
first_below octet low high octets (x ∷ head) more e joined h =
    let same : octet ≡ x = ap (λ (xs : List ℕ). get_or xs 0 0) (sym e ∙ joined) in
    omega (arith, same, h.1)

-- An octet that is the index of an entry leaves the table as it is.
pub index_keeps_table : (table after : Entries) (octet : ℕ) (field : Field) → 0x80 ≤ octet
    → Step table (octet ∷ []) field after → after ≡ table
index_keeps_table table after octet field high (by_index index indexed named marked same) = same
index_keeps_table table after octet field high
    (by_literal kind index head name value joined is_head named encoded marked same) =
    absurd (let low = first_below octet 0 0x80 (octet ∷ []) head (name ++ value) refl joined
    (literal_low kind index head is_head) in omega (arith, low, high))

-- The field of an octet that can be repeated is there once more.
pub repeats_next : (table : Entries) (octets : List ℕ) (octet : ℕ) (old new : FieldListBuilder)
    (done : List Field) → octets ≡ octet ∷ [] → octet < 0x100 → AddsAgain old new
    → IsRepeatable octet table done → AddsNext table octets old done octet table new
repeats_next table octets octet old new done first low adds (inl high) =
    absurd (omega (arith, low, high))
repeats_next table octets octet old new done first low adds (inr (before, field, same, step)) =
    record {
      field = field;
      step = subst (λ xs. Step table xs field table) (sym first) step;
      added = λ list_limit has. subst (λ fs. RepresentsList list_limit (fs ++ field ∷ []) new)
          (sym same) (adds list_limit before field
          (subst (λ fs. RepresentsList list_limit fs old) same has));
      repeatable = inr (done, field, refl, step);
    }

-- After the index of an entry in one octet this octet can be repeated.
pub reads_index : (table after : Entries) (octets : List ℕ) (octet : ℕ) (old new : FieldListBuilder)
    (done : List Field) (field : Field) → octets ≡ octet ∷ [] → 0x80 ≤ octet
    → Step table octets field after → Adds old field new
    → AddsNext table octets old done octet after new
reads_index table after octets octet old new done field first high step adds =
    let alone = subst (λ xs. Step table xs field after) first step in
    let same = index_keeps_table table after octet field high alone in
    record {
      field = field;
      step = step;
      added = λ list_limit has. adds list_limit done has;
      repeatable =
          inr (done, field, refl, subst (λ t. Step t (octet ∷ []) field after) (sym same) alone);
    }

-- After any other field none can be repeated.
pub reads_other : (table after : Entries) (octets : List ℕ) (old new : FieldListBuilder)
    (done : List Field) (field : Field) → Step table octets field after → Adds old field new
    → AddsNext table octets old done 0x100 after new
reads_other table after octets old new done field step adds = record {
  field = field;
  step = step;
  added = λ list_limit has. adds list_limit done has;
  repeatable = inl (omega arith);
}

-- A field has an octet.
pub some_read : (table after : Entries) (octets : List ℕ) (count : ℕ) (field : Field)
    → count ≤ length octets → Step table (take count octets) field after → 0 < count
some_read table after octets count field within step =
    omega (
      arith,
      step_long table after (take count octets) field step,
      length-take-le count octets within,
    )

-- the first octet, alone
pub take_first : (octets : List ℕ) (other : ℕ) → 0 < length octets
    → take 1 octets ≡ get_or octets 0 other ∷ []
take_first [] other some = absurd (omega arith)
take_first (x ∷ octets) other some = refl

-- how many octets there are between two places
len_between : (octets : List ℕ) (start end : ℕ) → start ≤ end → end ≤ length octets
    → length (octets_between octets start end) ≡ end - start
len_between octets start end ordered within =
    length-take-le (end - start) (drop start octets) (omega (
      arith,
      length-drop start octets,
      ordered,
      within,
    ))

-- the last place of a list, which has its last field
pub record IsLast (octets : List ℕ) (field : Field) (place : FieldPlace) : Type 0 where
  pub within : IsWithin (length octets) place
  pub same : field_of octets place ≡ field

-- The last place has the last field.
last_place : (octets : List ℕ) (places : List FieldPlace) (before : List Field) (field : Field)
    (place : FieldPlace) → slice_get places (length places - 1) ≡ Some place
    → AreWithin octets places → fields_of octets places ≡ before ++ field ∷ []
    → IsLast octets field place
last_place octets [] before field place found all same =
    absurd (omega (
      arith,
      ap (λ (xs : List Field). length xs) same,
      length-append before (field ∷ []),
    ))
last_place octets (p ∷ []) [] field place found all same =
    let is : p ≡ place = ap (λ (o : Option FieldPlace). unwrap_or o place) found in
    record {
      within = subst (IsWithin (length octets)) is all.0;
      same = ap (field_of octets) (sym is) ∙ ap (λ (xs : List Field). get_or xs 0 field) same;
    }
last_place octets (p ∷ []) (b ∷ before) field place found all same =
    absurd (omega (
      arith,
      ap (λ (xs : List Field). length xs) same,
      length-append before (field ∷ []),
    ))
last_place octets (p ∷ (q ∷ places)) [] field place found all same =
    absurd (omega (arith, ap (λ (xs : List Field). length xs) same))
last_place octets (p ∷ (q ∷ places)) (b ∷ before) field place found all same =
    let next : length (p ∷ (q ∷ places)) - 1 ≡ suc (length (q ∷ places) - 1) = omega arith in
    last_place octets (q ∷ places) before field place
    (sym (ap (λ (n : ℕ). slice_get (p ∷ (q ∷ places)) n) next) ∙ found) all.1
    (ap (λ (xs : List Field). drop 1 xs) same)

module _ (builder new : FieldListBuilder) (place : FieldPlace) (remaining size : ℕ)
    (left : builder.remaining ≡ Some remaining)
    (found : slice_get builder.places.items (length builder.places.items - 1) ≡ Some place)
    (computed : size ≡ min (place.value_end - place.start + 32) (2 ^ 64 - 1))
    (small : remaining < 2 ^ 32) (list_limit : ℕ) (before : List Field) (field : Field)
    (has : RepresentsList list_limit (before ++ field ∷ []) builder) where
  is_last : IsLast builder.octets.items field place
  is_last = last_place builder.octets.items builder.places.items before field place found has.within
      (has.whole remaining left).0

  -- the size of the last field
  size_last : size ≡ min (length field.name + length field.value + 32) (2 ^ 64 - 1)
  unfolding field_of
  size_last =
      let w = is_last.within in
      let name = len_between builder.octets.items place.start place.name_end w.name
      (omega (arith, w.value, w.end)) in
      let value = len_between builder.octets.items place.name_end place.value_end w.value w.end in
      let names : length field.name ≡ place.name_end - place.start =
      ap (λ (f : Field). length f.name) (sym is_last.same) ∙ name in
      let values : length field.value ≡ place.value_end - place.name_end =
      ap (λ (f : Field). length f.value) (sym is_last.same) ∙ value in
      omega (arith, names, values, computed, w.name, w.value)

  -- Where the limit has room, the last field is there once more.
  pub again_within_limit : size ≤ remaining → new.octets.items ≡ builder.octets.items
      → new.places.items ≡ builder.places.items ++ place ∷ []
      → new.remaining ≡ Some (remaining - size)
      → RepresentsList list_limit ((before ++ field ∷ []) ++ field ∷ []) new
  again_within_limit fits octets places after =
      let (same, sum) = has.whole remaining left in
      record {
        within = rw (octets, places)
            (within-append builder.octets.items builder.places.items (place ∷ []) has.within
            (is_last.within, tt));
        whole = λ n e.
            let same_left : n ≡ remaining - size =
            ap (λ (o : Option ℕ). unwrap_or o 0) (sym e ∙ after) in (
              rw (octets, places) (map-append (field_of builder.octets.items) builder.places.items
                  (place ∷ []) ∙ (ap (λ (fs : List Field). fs
                  ++ field_of builder.octets.items place ∷ []) same
                  ∙ ap (λ (f : Field). (before ++ field ∷ []) ++ f ∷ []) is_last.same)),
              omega (
                arith,
                same_left,
                sum,
                fits,
                size_last,
                small,
                list_size-more (before ++ field ∷ []) field,
              ),
            );
        too_large = λ e. absurd (none_is_some new.remaining (remaining - size) e after);
      }

  -- Where it has none, the list is too large.
  pub again_over_limit : remaining < size → new.places.items ≡ [] → new.remaining ≡ None
      → RepresentsList list_limit ((before ++ field ∷ []) ++ field ∷ []) new
  again_over_limit over places none =
      let (same, sum) = has.whole remaining left in
      represents_too_large new list_limit ((before ++ field ∷ []) ++ field ∷ []) places none
      (omega (arith, sum, over, size_last, small, list_size-more (before ++ field ∷ []) field))
