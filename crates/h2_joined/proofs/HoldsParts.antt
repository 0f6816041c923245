-- What holds of what an end hands out goes on holding as its connection reports more.
use Rattle.h2_joined.proofs.Names
use Names.{◌⊎◌, [], ◌∷◌, ◌++◌, inl, inr, refl, sym, ap, ◌∙◌, arith, append-nil, AllByRecursion}
use Names.{Contains, cases_eq, Contains-append_right, Field, Event, FieldsEvent, DataEvent, Log}
use Names.{Place, Reads, Part, FieldsPart, OctetsPart, IsReadable, Token, tokens_of_event}
use Names.{first_or_later, EndLog, Handed, Passed, tokens_of_part, tokens_of_parts, end_with_log}
use Names.{end_with_handed, handed_elsewhere, part_tokens, readable_here, tokens_with, Side, Made}
use Names.{tokens_heard, IsNoEmptyData, IsNoEmptyPart, part_on, parts_on, part_of_event, handed_as}
use Names.{handed_at, ◌≡◌, ℕ, Bool, List, Some, None}
use Rattle.h2_ends.proofs.EndParts.{same_part, no_tokens, other_tokens}
use Rattle.h2_joined.proofs.JointHolds.{EndHolds}
use Rattle.h2_message.specs.declared.reading.Place.TheVariants as places

-- All parts with one more say something.
pub says_with : (parts : List (Part × Bool)) (part : Part × Bool)
    → AllByRecursion IsNoEmptyPart parts → IsNoEmptyPart part
    → AllByRecursion IsNoEmptyPart (parts ++ part ∷ [])
says_with [] part all some = (some, tt)
says_with (first ∷ parts) part all some = (all.0, says_with parts part all.1 some)

-- Of the stream either nothing is reported and handed out, or the same part, which says something.
abbrev HandsAs : ℕ → Event → Handed → Type 0
HandsAs i event handed =
    ((part_on i handed ≡ []) × (tokens_of_event i event ≡ []))
    ⊎ ((part : Part × Bool) × (part_on i handed ≡ part ∷ [])
    × (tokens_of_event i event ≡ tokens_of_part part) × IsNoEmptyPart part)

-- So what was handed out of it is what was heard.
heard_with : (i : ℕ) (event : Event) (handed : Handed) (reported : List Event)
    (before : List Handed) → HandsAs i event handed
    → tokens_heard i reported ≡ tokens_of_parts (parts_on i before)
    → tokens_heard i (event ∷ reported) ≡ tokens_of_parts (parts_on i (handed ∷ before))
unfolding tokens_heard parts_on
heard_with i event handed reported before (inl none) is =
    rw (none.0, none.1) (append-nil (tokens_heard i reported) ∙ is
    ∙ ap tokens_of_parts (sym (append-nil (parts_on i before))))
heard_with i event handed reported before (inr one) is =
    rw (one.1, one.2) (ap (λ (tokens : List Token). tokens ++ tokens_of_part one.0) is
    ∙ sym (tokens_with (parts_on i before) one.0))

all_says : (i : ℕ) (event : Event) (handed : Handed) (before : List Handed)
    → HandsAs i event handed → AllByRecursion IsNoEmptyPart (parts_on i before)
    → AllByRecursion IsNoEmptyPart (parts_on i (handed ∷ before))
unfolding parts_on
all_says i event handed before (inl none) all =
    rw (none.0, append-nil (parts_on i before)) all
all_says i event handed before (inr one) all =
    rw one.1 (says_with (parts_on i before) one.0 all one.3)

-- The first of a list is one of it.
is_first : {X : Type 0} (first x : X) (others : List X) → first ≡ x → Contains (first ∷ others) x
is_first first x others is = (0, omega arith, is)

-- What is passed on are the events that are no part of a message.
record PassesAs (event : Event) (handed : Handed) : Type 0 where
  pub passed : (other : Event) → handed ≡ Passed other → event ≡ other
  pub passes : part_of_event event ≡ None → handed ≡ Passed event

-- The connection reports an event, and this is handed out.
holds_more : (made : List Made) (side : Side) (end : EndLog) (event : Event) (handed : Handed)
    (log : Log) → EndHolds made side end → log.reported ≡ event ∷ end.log.reported
    → log.calls ≡ end.log.calls → ((i : ℕ) → HandsAs i event handed) → PassesAs event handed
    → EndHolds made side (end_with_handed end log handed)
holds_more made side end event handed log holds more calls hands passes =
    record {
      heard = λ i. rw more
          (heard_with i event handed end.log.reported end.handed (hands i) (holds.heard i));
      says = λ i. all_says i event handed end.handed (hands i) (holds.says i);
      passed = λ other here. rw more (elim (first_or_later handed end.handed (Passed other) here) [
        | inl is ↦ is_first event other end.log.reported (passes.passed other is)
        | inr later ↦ Contains-append_right (event ∷ []) end.log.reported other
            (holds.passed other later)
      ]);
      reported = λ other none here. elim (first_or_later _ _ other (rw more at here)) [
        | inl is ↦ is_first handed (Passed other) end.handed
            (passes.passes (ap part_of_event is ∙ none) ∙ ap Passed is)
        | inr later ↦ Contains-append_right (handed ∷ []) end.handed (Passed other)
            (holds.reported other none later)
      ];
      asked = λ id code was. holds.asked id code (rw calls at was);
    }

-- It reports nothing.
pub holds_none : (made : List Made) (side : Side) (end : EndLog) (log : Log)
    → EndHolds made side end → log.reported ≡ end.log.reported → log.calls ≡ end.log.calls
    → EndHolds made side (end_with_log end log)
holds_none made side end log holds same calls =
    record {
      heard = λ i. rw same (holds.heard i);
      says = holds.says;
      passed = λ event here. rw same (holds.passed event here);
      reported = λ event none here. holds.reported event none (rw same at here);
      asked = λ id code was. holds.asked id code (rw calls at was);
    }

passes_it : (i : ℕ) (event : Event) → part_of_event event ≡ None
    → HandsAs i event (Passed event)
unfolding part_on
passes_it i event none = inl (refl, no_tokens i event none)

-- It reports what is no part of a message, and that is passed on.
pub holds_passed : (made : List Made) (side : Side) (end : EndLog) (event : Event) (log : Log)
    → EndHolds made side end → log.reported ≡ event ∷ end.log.reported
    → log.calls ≡ end.log.calls → part_of_event event ≡ None
    → EndHolds made side (end_with_handed end log (Passed event))
holds_passed made side end event log holds more calls none =
    holds_more made side end event (Passed event) log holds more calls
    (λ i. passes_it i event none) (record { passed = λ other is. cc; passes = λ no. refl })

-- It says something where its event does.
pub part_says : (event : Event) (id : ℕ) (part : Part × Bool)
    → part_of_event event ≡ Some (id, part) → IsNoEmptyData event → IsNoEmptyPart part
unfolding part_of_event IsNoEmptyData IsNoEmptyPart
part_says (FieldsEvent stream list end) id part of some =
    let same = same_part (stream, (FieldsPart list, end)) (id, part) of in
    rw (← same.1) tt
part_says (DataEvent stream octets flow end) id part of some =
    let same = same_part (stream, (OctetsPart octets, end)) (id, part) of in
    rw (← same.1) some
part_says event id part of some = absurd (cc)

-- A part of a message isn't passed on.
place_unpassed : (place : Place) (id : ℕ) (list : List Field) (end : Bool) (event : Event)
    → handed_at place id list end ≡ Passed event → ⊥
unfolding handed_at
place_unpassed places.Interim id list end event is = cc
place_unpassed places.Head id list end event is = cc
place_unpassed places.Trailers id list end event is = cc

unpassed : (reads : Reads) (parts : List (Part × Bool)) (id : ℕ) (part : Part × Bool)
    (event : Event) → handed_as reads parts id part ≡ Passed event → ⊥
unfolding handed_as
unpassed reads parts id (FieldsPart list, end) event is = place_unpassed _ _ _ _ event is
unpassed reads parts id (OctetsPart octets, end) event is = cc

-- So it is handed out on its stream alone.
hands_part : (reads : Reads) (parts : List (Part × Bool)) (event : Event) (i id : ℕ)
    (part : Part × Bool) → part_of_event event ≡ Some (id, part) → IsNoEmptyPart part
    → IsReadable reads (parts ++ part ∷ [])
    → HandsAs i event (handed_as reads parts id part)
hands_part reads parts event i id part of some readable = elim (cases_eq i id) [
  | inl here ↦ rw here (inr (
    part,
    readable_here reads parts id part readable,
    part_tokens event id part of,
    some,
  ))
  | inr other ↦ inl (
    handed_elsewhere reads parts i id part other,
    other_tokens event i id part of other,
  )
]

-- It reports a part of a message that can be read, and that is handed out.
pub holds_handed : (made : List Made) (side : Side) (end : EndLog) (event : Event) (log : Log)
    (reads : Reads) (parts : List (Part × Bool)) (id : ℕ) (part : Part × Bool)
    → EndHolds made side end → log.reported ≡ event ∷ end.log.reported
    → log.calls ≡ end.log.calls → part_of_event event ≡ Some (id, part) → IsNoEmptyPart part
    → IsReadable reads (parts ++ part ∷ [])
    → EndHolds made side (end_with_handed end log (handed_as reads parts id part))
holds_handed made side end event log reads parts id part holds more calls of some readable =
    holds_more made side end event (handed_as reads parts id part) log holds more calls
    (λ i. hands_part reads parts event i id part of some readable) (record {
      passed = λ other is. absurd (unpassed reads parts id part other is);
      passes = λ none. let wrong : Some (id, part) ≡ None = sym of ∙ none in absurd (cc);
    })
