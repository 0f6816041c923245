-- What a store keeps, once octets, fields or an event are kept after what was kept before.
use Rattle.h2_joined.proofs.Names
use Names.{◌+◌, ◌-◌, ◌<◌, ◌≤◌, true, [], ◌∷◌, ◌++◌, length, take, drop, map, refl, sym, ap, ap₂}
use Names.{◌∙◌, if◌then◌else◌, arith, subst, append_assoc, append-nil, drop-append_seam, map-append}
use Names.{take_all, both_ways, AllByRecursion, Field, list_size, Handed, BodyHanded, Span}
use Names.{FieldPlace, EventPlace, Store, items_in, stored_fields, events_kept, IsSpan, IsFieldPlace}
use Names.{AreStored, HasRoomForEvent, KeepsMore, KeepsHanded, stored_field, event_kept}
use Names.{IsEventPlace, Fits, ◌≡◌, ℕ, Bool, false, List, reverse}
use Rattle.h2_joined.specs.Stored.{KeepsItems, StoresOctets, KeepsField, AreFieldsKept, KeepsList}
use Rattle.h2_joined.specs.Stored.{IsPlaced, PlacesEvent, most_list_size}
use Rattle.std.proofs.Common.{◌*◌, length-append}
use Rattle.std.proofs.Math.Seq.{take-append_seam, take-length}
use Rattle.std.proofs.lemmas.List.Sums.{sum_by-cons}
use Rattle.std.specs.Vec.{vec_len, vec_capacity}
use Rattle.h2_joined.proofs.KeptPlaces.{fields_more, events_more, fields_within, events_within}
use Rattle.h2_laws_pair.proofs.Lists.{all_both as all_joined}
use Rattle.h2_ends.specs.declared.event.EndEvent.TheVariants as places

-- The same items are the same events, wherever they lie.
same_events : (old new : Store) → KeepsItems old new → events_kept new ≡ events_kept old
same_events old new same = rw (same.octets, same.fields, same.events) refl

same_stored : (old new : Store) → KeepsItems old new → AreStored old → AreStored new
same_stored old new same stored =
    record {
      fields = rw (same.octets, same.fields) stored.fields;
      events = rw (same.octets, same.fields, same.events) stored.events;
    }

pub same_handed : (old new : Store) (handed : List Handed) → KeepsItems old new
    → KeepsHanded old handed → KeepsHanded new handed
same_handed old new handed same keeps =
    record {
      same = keeps.same ∙ ap (λ (events : List Handed). reverse events)
          (sym (same_events old new same));
      stored = same_stored old new same keeps.stored;
    }

-- What was pushed is there, where that was done.
pub is_pushed : {A : Type 0} (ok : Bool) (now before more : List A)
    → now ≡ (if ok then more else before) → ok ≡ true → now ≡ more
is_pushed true now before more is done = is
is_pushed false now before more is done = absurd (both_ways false refl done)

-- Octets that are kept after others are those of their span.
part_kept : {A : Type 0} (before more : List A) (span : Span) → span.start ≡ length before
    → span.end ≡ length (before ++ more) → items_in (before ++ more) span ≡ more
part_kept before more span starts ends =
    let count : span.end - span.start ≡ length more =
    omega (arith, starts, ends, length-append before more) in
    ap₂ (λ (n : ℕ) (items : List _). take n items) count
    (ap (λ (n : ℕ). drop n (before ++ more)) starts ∙ drop-append_seam before more)
    ∙ take-length more

part_kept_first : {A : Type 0} (before more others : List A) (span : Span)
    → span.start ≡ length before → span.end ≡ length (before ++ more)
    → items_in (before ++ (more ++ others)) span ≡ more
part_kept_first before more others span starts ends =
    let count : span.end - span.start ≡ length more = omega
    (arith, starts, ends, length-append before more) in
    ap₂ (λ (n : ℕ) (items : List _). take n items) count
    (ap (λ (n : ℕ). drop n (before ++ (more ++ others))) starts
    ∙ drop-append_seam before (more ++ others)) ∙ take-append_seam _ _

-- A field is kept by its name and its value.
pub field_kept : (old one two new : Store) (name value : Span) (names values : List ℕ)
    (sensitive : Bool) → StoresOctets old names name one → StoresOctets one values value two
    → new.events ≡ two.events → new.octets ≡ two.octets
    → vec_capacity two.fields ≤ vec_capacity new.fields
    → (vec_len two.fields < vec_capacity two.fields → new.fields.items
    ≡ two.fields.items ++ record { name = name; value = value; sensitive = sensitive } ∷ [])
    → KeepsField old (record { name = names; value = values; sensitive = sensitive }) new
unfolding stored_field
field_kept old one two new name value names values sensitive first second same_events same_octets
    grows pushes =
    record {
      events = same_events ∙ second.events ∙ first.events;
      octets_capacity = rw same_octets (omega (arith, first.capacity, second.capacity));
      fields_capacity =
          let fields = ap (λ v. vec_capacity v) (second.fields ∙ first.fields) in
          omega (arith, fields, grows);
      kept = λ room place.
          let (names_are, name_start, name_end) = first.kept (omega (arith, room)) in
          let counted : vec_len one.octets ≡ vec_len old.octets + length names = one.octets.ok.0 ∙
          ap length names_are ∙ omega (arith, length-append old.octets.items names, old.octets.ok.0)
          in
          let (values_are, value_start, value_end) = second.kept
          (omega (arith, room, counted, first.capacity)) in
          let all : two.octets.items ≡ old.octets.items ++ (names ++ values) = values_are ∙ ap
          (λ (o : List ℕ). o ++ values) names_are ∙ append_assoc _ _ values in
          let items : new.octets.items ≡ old.octets.items ++ (names ++ values) = ap (λ v. v.items)
          same_octets ∙ all in
          let fields = second.fields ∙ first.fields in
          let lengths = length-append old.octets.items (names ++ values) in
          let halves = length-append names values in
          let now = ap length items in
          let middle = ap length names_are ∙ length-append old.octets.items names in
          let last = ap length values_are ∙ length-append one.octets.items values in
          record {
            place = record { name = name; value = value; sensitive = sensitive };
            octets = items;
            fields = pushes (rw fields (omega (arith, place))) ∙ ap (λ v. v.items ++ record {
              name = name;
              value = value;
              sensitive = sensitive;
            } ∷ []) fields;
            same = rw items (ap₂ (λ (n v : List ℕ). record {
              name = n;
              value = v;
              sensitive = sensitive;
            }) (part_kept_first old.octets.items names values name name_start
                (name_end ∙ ap length names_are)) (ap (λ (o : List ℕ). items_in o value)
                (sym (append_assoc old.octets.items names values)) ∙ part_kept
                (old.octets.items ++ names) values value (value_start ∙ ap length names_are)
                (value_end ∙ ap length (values_are ∙ ap (λ (o : List ℕ). o ++ values) names_are))));
            within = record {
              name = record {
                ordered = omega (arith, name_start, name_end, middle);
                within = omega (arith, name_end, middle, now, lengths, halves);
              };
              value = record {
                ordered = omega (arith, value_start, value_end, last);
                within = omega (arith, value_end, ap length all, now);
              };
            };
          };
    }

-- An event whose place was made is kept.
pub placed_kept : (old mid new : Store) (handed : Handed) (place : EventPlace)
    → IsPlaced old handed place mid → new.octets.items ≡ mid.octets.items
    → new.fields.items ≡ mid.fields.items → new.events.items ≡ old.events.items ++ place ∷ []
    → AreStored old → KeepsMore old handed new
placed_kept old mid new handed place placed octets fields events stored =
    let octets_are = octets ∙ placed.octets_are in
    let fields_are = fields ∙ placed.fields_are in
    let more_octets = length-append old.octets.items placed.octets in
    let more_fields = length-append old.fields.items placed.fields in
    let count = ap length octets_are in
    let fields_count = ap length fields_are in
    let less : length old.octets.items ≤ length new.octets.items = omega (arith, more_octets, count)
    in
    let fewer : length old.fields.items ≤ length new.fields.items = omega
    (arith, more_fields, fields_count) in
    let kept : map (event_kept new.octets.items new.fields.items) old.events.items ≡ events_kept old
    = rw (octets_are, fields_are) (events_more _ placed.octets _
    placed.fields _ stored.fields stored.events) in
    let one : event_kept new.octets.items new.fields.items place ≡ handed = rw (octets, fields)
    placed.same in
    record {
      more = ap (λ (e : List EventPlace). map
          (event_kept new.octets.items new.fields.items) e) events ∙ map-append _ _ _
          ∙ ap₂ (λ (before : List Handed) (last : Handed). before ++ last ∷ []) kept one;
      stored = record {
        fields = subst (λ (f : List FieldPlace).
            AllByRecursion (IsFieldPlace (length new.octets.items)) f) (sym fields_are)
            (all_joined _ _ placed.fields (fields_within _ _ old.fields.items less stored.fields)
            (subst (λ (o : List ℕ). AllByRecursion (IsFieldPlace (length o)) placed.fields)
            (sym octets) placed.fields_within));
        events = subst (λ (e : List EventPlace). AllByRecursion
            (IsEventPlace (length new.octets.items) (length new.fields.items)) e) (sym events)
            (all_joined _ _ _ (events_within _ _ _ _ old.events.items less fewer stored.events)
            (rw (octets, fields) placed.within, tt));
      };
    }

-- A list has 32 for each field.
size_cons : (field : Field) (fields : List Field) → list_size (field ∷ fields)
    ≡ length field.name + length field.value + 32 + list_size fields
size_cons field fields =
    sum_by-cons (λ (one : Field). length one.name + length one.value + 32) field fields

few_fields : (fields : List Field) → 32 * length fields ≤ list_size fields
few_fields [] = omega arith
few_fields (field ∷ fields) = omega (arith, size_cons field fields, few_fields fields)

-- The fields of a list so far are kept, and there is room for the others.
pub record KeptSoFar (old : Store) (list : List Field) (count : ℕ) (now : Store) : Type 0 where
  pub kept : AreFieldsKept old (take count list) now
  pub octets_room : vec_len now.octets + list_size (drop count list) ≤ vec_capacity now.octets
  pub fields_room : vec_len now.fields + length (drop count list) ≤ vec_capacity now.fields

pub record ListSoFar (old : Store) (list : List Field) (count : ℕ) (now : Store) : Type 0 where
  pub events : now.events ≡ old.events
  pub kept : (body : ℕ) → HasRoomForEvent body old → list_size list ≤ most_list_size
      → KeptSoFar old list count now

pub list_begins : (old : Store) (list : List Field) → ListSoFar old list 0 old
list_begins old list =
    record {
      events = refl;
      kept = λ body room small. record {
        kept = record {
          octets = [];
          places = [];
          octets_are = sym (append-nil old.octets.items);
          fields_are = sym (append-nil old.fields.items);
          same = refl;
          within = tt;
        };
        octets_room = omega (arith, room.octets, small);
        fields_room = omega (arith, room.fields, small, few_fields list);
      };
    }

-- All of them are.
pub list_ends : (old now : Store) (list : List Field) (count : ℕ) (span : Span)
    → length list ≤ count → span.start ≡ length old.fields.items
    → span.end ≡ length now.fields.items → ListSoFar old list count now
    → KeepsList old list span now
list_ends old now list count span all starts ends sofar =
    record {
      events = sofar.events;
      start = starts;
      end = ends;
      kept = λ body room small. subst (λ (l : List Field). AreFieldsKept old l now)
          (take_all count list all) (sofar.kept body room small).kept;
    }

pub list_goes_on : (old now new : Store) (list : List Field) (count : ℕ) (field : Field)
    → drop count list ≡ field ∷ drop (count + 1) list
    → take (count + 1) list ≡ take count list ++ field ∷ []
    → ListSoFar old list count now → KeepsField now field new → ListSoFar old list (count + 1) new
list_goes_on old now new list count field left taken sofar keeps =
    record {
      events = keeps.events ∙ sofar.events;
      kept = λ body room small.
          let some = sofar.kept body room small in
          let size = ap list_size left ∙ size_cons field (drop (count + 1) list) in
          let others = ap length left in
          let one = keeps.kept (omega (arith, some.octets_room, size))
          (omega (arith, some.fields_room, others)) in
          let before = some.kept in
          let text = field.name ++ field.value in
          let halves = length-append field.name field.value in
          let octets_count = ap length one.octets ∙ length-append now.octets.items text in
          let fields_count = ap length one.fields ∙ length-append now.fields.items (one.place ∷ [])
          in
          let less : length now.octets.items ≤ length new.octets.items = omega (arith, octets_count)
          in
          record {
            kept = record {
              octets = before.octets ++ text;
              places = before.places ++ one.place ∷ [];
              octets_are = one.octets ∙ ap (λ (o : List ℕ). o ++ text) before.octets_are
                  ∙ append_assoc old.octets.items before.octets text;
              fields_are = one.fields ∙ ap (λ (f : List FieldPlace). f ++ one.place ∷ [])
                  before.fields_are ∙ append_assoc old.fields.items before.places (one.place ∷ []);
              same = map-append (stored_field new.octets.items) before.places (one.place ∷ []) ∙ ap₂
                  (λ (fs : List Field) (f : Field). fs ++ f ∷ [])
                  (ap (λ (o : List ℕ). stored_fields o before.places) one.octets
                  ∙ fields_more now.octets.items text before.places before.within ∙ before.same)
                  one.same ∙ sym taken;
              within = all_joined _ _ (one.place ∷ [])
                  (fields_within _ _ before.places less before.within) (one.within, tt);
            };
            octets_room = omega (
              arith,
              some.octets_room,
              size,
              octets_count,
              halves,
              keeps.octets_capacity,
              now.octets.ok.0,
              new.octets.ok.0,
            );
            fields_room = omega (
              arith,
              some.fields_room,
              others,
              fields_count,
              keeps.fields_capacity,
              now.fields.ok.0,
              new.fields.ok.0,
            );
          };
    }

-- A list that is kept is that of its span.
record ListPlaced (list : List Field) (span : Span) (new : Store) : Type 0 where
  same : stored_fields new.octets.items (items_in new.fields.items span) ≡ list
  within : IsSpan (length new.fields.items) span

module _ (old new : Store) (list : List Field) (span : Span) where
  list_placed : KeepsList old list span new → AreFieldsKept old list new → ListPlaced list span new
  list_placed keeps kept =
      let count = ap length kept.fields_are ∙ length-append old.fields.items kept.places in
      record {
        same = ap (λ (f : List FieldPlace). stored_fields new.octets.items (items_in f span))
            kept.fields_are ∙ ap (λ (f : List FieldPlace). stored_fields new.octets.items f)
            (part_kept old.fields.items kept.places span keeps.start
            (keeps.end ∙ ap length kept.fields_are)) ∙ kept.same;
        within = record {
          ordered = omega (arith, keeps.start, keeps.end, count);
          within = omega (arith, keeps.end);
        };
      }

  -- So an event with a list has its place,
  pub list_event : (handed : Handed) (place : EventPlace) → KeepsList old list span new
      → ((body : ℕ) → Fits body handed → list_size list ≤ most_list_size)
      → (stored_fields new.octets.items (items_in new.fields.items span) ≡ list → event_kept
      new.octets.items new.fields.items place ≡ handed)
      → (IsSpan (length new.fields.items) span → IsEventPlace (length new.octets.items)
      (length new.fields.items) place)
      → PlacesEvent old handed place new
  list_event handed place keeps small same within =
      record {
        events = keeps.events;
        placed = λ body room fit.
            let kept = keeps.kept body room (small body fit) in
            let placed = list_placed keeps kept in
            record {
              octets = kept.octets;
              fields = kept.places;
              octets_are = kept.octets_are;
              fields_are = kept.fields_are;
              same = same placed.same;
              fields_within = kept.within;
              within = within placed.within;
            };
      }

-- one with a body,
pub body_event : (old new : Store) (octets : List ℕ) (span : Span) (id : ℕ) (end : Bool)
    → StoresOctets old octets span new
    → PlacesEvent old (BodyHanded id octets end) (places.Body id span end) new
unfolding event_kept Fits IsEventPlace
body_event old new octets span id end keeps =
    record {
      events = keeps.events;
      placed = λ body room fit.
          let (are, starts, ends) = keeps.kept (omega (arith, room.octets, fit)) in
          let count = ap length are ∙ length-append old.octets.items octets in
          record {
            octets = octets;
            fields = [];
            octets_are = are;
            fields_are = ap (λ v. v.items) keeps.fields ∙ sym (append-nil old.fields.items);
            same = ap (λ (o : List ℕ). BodyHanded id o end) (ap (λ (o : List ℕ). items_in o span) are
                ∙ part_kept _ _ span starts (ends ∙ ap length are));
            fields_within = tt;
            within = record {
              ordered = omega (arith, starts, ends, count);
              within = omega (arith, ends);
            };
          };
    }

-- and one without either.
pub bare_event : (old : Store) (handed : Handed) (place : EventPlace)
    → event_kept old.octets.items old.fields.items place ≡ handed
    → IsEventPlace (length old.octets.items) (length old.fields.items) place
    → PlacesEvent old handed place old
bare_event old handed place same within =
    record {
      events = refl;
      placed = λ body room fit. record {
        octets = [];
        fields = [];
        octets_are = sym (append-nil old.octets.items);
        fields_are = sym (append-nil old.fields.items);
        same = same;
        fields_within = tt;
        within = within;
      };
    }
