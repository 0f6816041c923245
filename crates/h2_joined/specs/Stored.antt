-- What is kept of events: where each lies among octets and fields that are kept one after another,
-- and what a store is once one event more is kept.
use Rattle.std.specs.Prelude.{map, max, ◌≡◌, ℕ, ◌+◌, ◌-◌, ◌≤◌, List, [], ◌∷◌, ◌++◌, length, take, drop}
use Rattle.std.specs.List.{AllByRecursion}
use Rattle.std.specs.Borrow.{Bor}
use Rattle.std.specs.Vec.{vec_len, vec_capacity}
use Rattle.hpack.specs.declared.types.field.Field.{Field}
use Rattle.hpack.specs.Lists.{list_size}
use Rattle.h2_ends.specs.declared.event.EndEvent.{EndEvent}
use Rattle.h2_ends.specs.declared.event.EndEvent.TheVariants as places
use Rattle.h2_ends.specs.Ends.{Handed, InterimHanded, HeadHanded, BodyHanded, TrailersHanded}
use Rattle.h2_ends.specs.Ends.{Passed}
use Rattle.h2_ends.specs.EndEvents.{end_event_value}
use Rattle.h2_joined.specs.declared.store.Span.{Span}
use Rattle.h2_joined.specs.declared.store.FieldPlace.{FieldPlace}
use Rattle.h2_joined.specs.declared.store.Store.{Store}
use Rattle.h2_joined.specs.declared.events.KeptFields.{KeptFields}

-- the items of a span
abbrev pub items_in : {A : Type 0} → List A → Span → List A
items_in items span = take (span.end - span.start) (drop span.start items)

-- the field at a place
unfoldable pub stored_field : List ℕ → FieldPlace → Field
stored_field octets place = record {
  name = items_in octets place.name;
  value = items_in octets place.value;
  sensitive = place.sensitive;
}

-- the fields at places, in order
abbrev pub stored_fields : List ℕ → List FieldPlace → List Field
stored_fields octets places = map (stored_field octets) places

-- an event, with where its fields are among the fields, and its octets among the octets
abbrev pub EventPlace : Type 0
EventPlace = EndEvent Span Span

-- the event at a place
-- rule: joined (own) Accepted messages, what was handed out, octets on a pipe are kept
unfoldable pub event_kept : List ℕ → List FieldPlace → EventPlace → Handed
event_kept octets fields place =
    end_event_value (λ list. stored_fields octets (items_in fields list))
    (λ part. items_in octets part) place

-- the events that are kept, the first one first
-- rule: joined (own) Accepted messages, what was handed out, octets on a pipe are kept
abbrev pub events_kept : Store → List Handed
events_kept store = map (event_kept store.octets.items store.fields.items) store.events.items

-- The span is within `count` items.
pub record IsSpan (count : ℕ) (span : Span) : Type 0 where
  pub ordered : span.start ≤ span.end
  pub within : span.end ≤ count

-- A field lies within this many octets.
pub record IsFieldPlace (octets : ℕ) (place : FieldPlace) : Type 0 where
  pub name : IsSpan octets place.name
  pub value : IsSpan octets place.value

-- An event lies within this many octets and fields.
unfoldable pub IsEventPlace : (octets fields : ℕ) → EventPlace → Type 0
IsEventPlace octets fields (places.Interim id list) = IsSpan fields list
IsEventPlace octets fields (places.Head id list end) = IsSpan fields list
IsEventPlace octets fields (places.Body id part end) = IsSpan octets part
IsEventPlace octets fields (places.Trailers id list) = IsSpan fields list
IsEventPlace octets fields (places.Reset id code ours) = Unit {0}
IsEventPlace octets fields (places.Unprocessed id) = Unit {0}
IsEventPlace octets fields (places.GoAway last code) = Unit {0}
IsEventPlace octets fields places.Acked = Unit {0}
IsEventPlace octets fields (places.Pong pong) = Unit {0}

-- All that a store keeps lies within it.
pub record AreStored (store : Store) : Type 0 where
  pub fields : AllByRecursion (IsFieldPlace (length store.octets.items)) store.fields.items
  pub events : AllByRecursion
      (IsEventPlace (length store.octets.items) (length store.fields.items)) store.events.items

-- the fields of a list that is lent
abbrev pub fields_kept : KeptFields → List Field
fields_kept list = stored_fields list.octets.now list.places.now

-- an event that is lent
-- rule: joined (own) Accepted messages, what was handed out, octets on a pipe are kept
abbrev pub joint_event_value : EndEvent KeptFields (Bor (List ℕ)) → Handed
joint_event_value event = end_event_value fields_kept (λ octets. octets.now) event

-- the greatest size of a list, in which each field counts 32 octets more than it has
abbrev pub most_list_size : ℕ
most_list_size = 65536

-- how many octets an event has at most, where a body has no more than this
abbrev pub most_event_octets : ℕ → ℕ
most_event_octets body = max most_list_size body

-- see `most_list_size`: 65,536 octets, by 32 for each field
abbrev pub most_fields : ℕ
most_fields = 2048

-- There is room for the largest event of a call, where a body has so many octets at most.
-- rule: joined (own) A delivery without memory stops before a call and loses nothing
pub record HasRoomForEvent (body : ℕ) (store : Store) : Type 0 where
  pub events : vec_len store.events + 1 ≤ vec_capacity store.events
  pub fields : vec_len store.fields + most_fields ≤ vec_capacity store.fields
  pub octets : vec_len store.octets + most_event_octets body ≤ vec_capacity store.octets

-- Such room is enough for this event.
unfoldable pub Fits : ℕ → Handed → Type 0
Fits body (InterimHanded id list) = list_size list ≤ most_list_size
Fits body (HeadHanded id list end) = list_size list ≤ most_list_size
Fits body (BodyHanded id octets end) = length octets ≤ most_event_octets body
Fits body (TrailersHanded id list) = list_size list ≤ most_list_size
Fits body (Passed event) = Unit {0}

-- The same is kept, with other room.
pub record KeepsItems (old new : Store) : Type 0 where
  pub events : new.events.items ≡ old.events.items
  pub fields : new.fields.items ≡ old.fields.items
  pub octets : new.octets.items ≡ old.octets.items

-- This is kept after what was kept before.
pub record KeepsMore (old : Store) (handed : Handed) (new : Store) : Type 0 where
  pub more : events_kept new ≡ events_kept old ++ handed ∷ []
  pub stored : AreStored new

-- Octets are kept, at this span, where there is room.
pub record StoresOctets (old : Store) (octets : List ℕ) (span : Span) (new : Store) : Type 0 where
  pub events : new.events ≡ old.events
  pub fields : new.fields ≡ old.fields
  pub capacity : vec_capacity old.octets ≤ vec_capacity new.octets
  pub kept : vec_len old.octets + length octets ≤ vec_capacity old.octets
      → (new.octets.items ≡ old.octets.items ++ octets)
      × (span.start ≡ length old.octets.items) × (span.end ≡ length new.octets.items)

-- A field was kept, the last of all.
pub record IsFieldKept (old : Store) (field : Field) (new : Store) : Type 0 where
  pub place : FieldPlace
  pub octets : new.octets.items ≡ old.octets.items ++ (field.name ++ field.value)
  pub fields : new.fields.items ≡ old.fields.items ++ place ∷ []
  pub same : stored_field new.octets.items place ≡ field
  pub within : IsFieldPlace (length new.octets.items) place

-- What keeping a field makes of a store: with room for its octets and its place, it is kept.
pub record KeepsField (old : Store) (field : Field) (new : Store) : Type 0 where
  pub events : new.events ≡ old.events
  pub octets_capacity : vec_capacity old.octets ≤ vec_capacity new.octets
  pub fields_capacity : vec_capacity old.fields ≤ vec_capacity new.fields
  pub kept : vec_len old.octets + (length field.name + length field.value)
      ≤ vec_capacity old.octets → vec_len old.fields + 1 ≤ vec_capacity old.fields
      → IsFieldKept old field new

-- Fields were kept, after what was kept before.
pub record AreFieldsKept (old : Store) (list : List Field) (new : Store) : Type 0 where
  pub octets : List ℕ
  pub places : List FieldPlace
  pub octets_are : new.octets.items ≡ old.octets.items ++ octets
  pub fields_are : new.fields.items ≡ old.fields.items ++ places
  pub same : stored_fields new.octets.items places ≡ list
  pub within : AllByRecursion (IsFieldPlace (length new.octets.items)) places

-- A list is kept, at this span, where there is room and it is not too large.
pub record KeepsList (old : Store) (list : List Field) (span : Span) (new : Store) : Type 0 where
  pub events : new.events ≡ old.events
  pub start : span.start ≡ length old.fields.items
  pub end : span.end ≡ length new.fields.items
  pub kept : (body : ℕ) → HasRoomForEvent body old → list_size list ≤ most_list_size
      → AreFieldsKept old list new

-- What an event has is kept, and this is its place.
pub record IsPlaced (old : Store) (handed : Handed) (place : EventPlace) (new : Store) : Type 0
  where
    pub octets : List ℕ
    pub fields : List FieldPlace
    pub octets_are : new.octets.items ≡ old.octets.items ++ octets
    pub fields_are : new.fields.items ≡ old.fields.items ++ fields
    pub same : event_kept new.octets.items new.fields.items place ≡ handed
    pub fields_within : AllByRecursion (IsFieldPlace (length new.octets.items)) fields
    pub within : IsEventPlace (length new.octets.items) (length new.fields.items) place

-- What keeping the fields and the octets of an event makes of a store, in which no event is new:
-- with room for the largest event, the place is that of this one.
pub record PlacesEvent (old : Store) (handed : Handed) (place : EventPlace) (new : Store) : Type 0
  where
    pub events : new.events ≡ old.events
    pub placed : (body : ℕ) → HasRoomForEvent body old → Fits body handed
        → IsPlaced old handed place new
