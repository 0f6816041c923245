-- What is kept at places stays where more is kept after it.
use Rattle.h2_joined.proofs.Names
use Names.{suc, ◌-◌, ◌<◌, ◌≤◌, [], ◌∷◌, ◌++◌, length, take, drop, map, refl, ap, ap₂, ◌∙◌, arith}
use Names.{AllByRecursion, slice_get, drop-append-le, Field, Handed, InterimHanded, HeadHanded}
use Names.{BodyHanded, TrailersHanded, Span, FieldPlace, EventPlace, items_in, stored_fields, IsSpan}
use Names.{IsFieldPlace, stored_field, event_kept, IsEventPlace, ◌≡◌, ℕ, List, Some}
use Rattle.std.proofs.Common.{zero, get_or, length-drop}
use Rattle.std.specs.Option.{option_map}
use Rattle.std.proofs.lemmas.List.{take-append-le}
use Rattle.std.proofs.lemmas.Option.{slice_get-map, slice_get-get_or}
use Rattle.h2_ends.specs.declared.event.EndEvent.TheVariants as places

-- The item at a place of a list, with what is made of it.
pub made_at : {A B : Type 0} (f : A → B) (items : List A) (i : ℕ) (other : A) → i < length items
    → slice_get (map f items) i ≡ Some (f (get_or items i other))
made_at f items i other within =
    slice_get-map f items i ∙ ap (option_map f) (slice_get-get_or items i other within)

-- The items of a span stay.
pub part_more : {A : Type 0} (items more : List A) (span : Span) → IsSpan (length items) span
    → items_in (items ++ more) span ≡ items_in items span
part_more items more span is =
    ap (take (span.end - span.start))
    (drop-append-le span.start items more (omega (arith, is.ordered, is.within))) ∙ take-append-le _
    _ more (omega (arith, length-drop span.start items, is.within))

-- So does a field,
field_more : (octets more : List ℕ) (place : FieldPlace) → IsFieldPlace (length octets) place
    → stored_field (octets ++ more) place ≡ stored_field octets place
unfolding stored_field
field_more octets more place is =
    ap₂ (λ (name value : List ℕ). record {
      name = name;
      value = value;
      sensitive = place.sensitive;
    }) (part_more _ _ place.name is.name) (part_more octets more place.value is.value)

pub fields_more : (octets more : List ℕ) (fields : List FieldPlace)
    → AllByRecursion (IsFieldPlace (length octets)) fields
    → stored_fields (octets ++ more) fields ≡ stored_fields octets fields
fields_more octets more [] all = refl
fields_more octets more (place ∷ fields) all =
    ap₂ (λ (f : Field) (fs : List Field). f ∷ fs) (field_more octets more place all.0)
    (fields_more octets more fields all.1)

-- What holds of all items holds of those of a span.
all_taken : {A : Type 0} (P : A → Type 0) (n : ℕ) (items : List A) → AllByRecursion P items
    → AllByRecursion P (take n items)
all_taken P zero items all = tt
all_taken P (suc n) [] all = tt
all_taken P (suc n) (item ∷ items) all = (all.0, all_taken P n items all.1)

all_dropped : {A : Type 0} (P : A → Type 0) (n : ℕ) (items : List A) → AllByRecursion P items
    → AllByRecursion P (drop n items)
all_dropped P zero items all = all
all_dropped P (suc n) [] all = tt
all_dropped P (suc n) (item ∷ items) all = all_dropped P n items all.1

module _ (octets more : List ℕ) (fields others : List FieldPlace) where
  -- The fields of a span stay,
  listed : (list : Span) → AllByRecursion (IsFieldPlace (length octets)) fields
      → IsSpan (length fields) list
      → stored_fields (octets ++ more) (items_in (fields ++ others) list) ≡ stored_fields octets
      (items_in fields list)
  listed list all is = ap (λ (l : List FieldPlace). stored_fields (octets ++ more) l)
      (part_more fields others list is) ∙ fields_more octets more (items_in fields list)
      (all_taken (IsFieldPlace (length octets)) (list.end - list.start) (drop list.start fields)
      (all_dropped (IsFieldPlace (length octets)) list.start fields all))

  -- and an event,
  event_more : (place : EventPlace) → AllByRecursion (IsFieldPlace (length octets)) fields
      → IsEventPlace (length octets) (length fields) place
      → event_kept (octets ++ more) (fields ++ others) place ≡ event_kept octets fields place
  unfolding event_kept IsEventPlace
  event_more (places.Interim id list) all is =
      ap (λ (l : List Field). InterimHanded id l) (listed list all is)
  event_more (places.Head id list end) all is =
      ap (λ (l : List Field). HeadHanded id l end) (listed list all is)
  event_more (places.Body id part end) all is =
      ap (λ (o : List ℕ). BodyHanded id o end) (part_more octets more part is)
  event_more (places.Trailers id list) all is =
      ap (λ (l : List Field). TrailersHanded id l) (listed list all is)
  event_more (places.Reset id code ours) all is = refl
  event_more (places.Unprocessed id) all is = refl
  event_more (places.GoAway last code) all is = refl
  event_more places.Acked all is = refl
  event_more (places.Pong pong) all is = refl

  pub events_more : (events : List EventPlace)
      → AllByRecursion (IsFieldPlace (length octets)) fields
      → AllByRecursion (IsEventPlace (length octets) (length fields)) events
      → map (event_kept (octets ++ more) (fields ++ others)) events ≡ map (event_kept octets fields)
      events
  events_more [] all are = refl
  events_more (place ∷ events) all are = ap₂ (λ (h : Handed) (hs : List Handed). h ∷ hs)
      (event_more place all are.0) (events_more events all are.1)

-- What lies among so many lies among more.
span_within : (count more : ℕ) (span : Span) → count ≤ more → IsSpan count span → IsSpan more span
span_within count more span less is =
    record { ordered = is.ordered; within = omega (arith, less, is.within) }

pub fields_within : (count more : ℕ) (fields : List FieldPlace) → count ≤ more
    → AllByRecursion (IsFieldPlace count) fields → AllByRecursion (IsFieldPlace more) fields
fields_within count more [] less all = tt
fields_within count more (place ∷ fields) less all = (
  record {
    name = span_within count more place.name less all.0.name;
    value = span_within count more place.value less all.0.value;
  },
  fields_within count more fields less all.1,
)

module _ (octets more fields others : ℕ) where
  event_within : (place : EventPlace) → octets ≤ more → fields ≤ others
      → IsEventPlace octets fields place → IsEventPlace more others place
  unfolding IsEventPlace
  event_within (places.Interim id list) less fewer is = span_within fields others list fewer is
  event_within (places.Head id list end) less fewer is = span_within fields others list fewer is
  event_within (places.Body id part end) less fewer is = span_within octets more part less is
  event_within (places.Trailers id list) less fewer is = span_within fields others list fewer is
  event_within (places.Reset id code ours) less fewer is = tt
  event_within (places.Unprocessed id) less fewer is = tt
  event_within (places.GoAway last code) less fewer is = tt
  event_within places.Acked less fewer is = tt
  event_within (places.Pong pong) less fewer is = tt

  pub events_within : (events : List EventPlace) → octets ≤ more → fields ≤ others
      → AllByRecursion (IsEventPlace octets fields) events
      → AllByRecursion (IsEventPlace more others) events
  events_within [] less fewer all = tt
  events_within (place ∷ events) less fewer all = (
    event_within place less fewer all.0,
    events_within events less fewer all.1,
  )
