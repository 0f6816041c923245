-- A part of a message is handed out as that part, and its tokens are those that were reported.
use Rattle.h2_ends.proofs.Names
use Names.{◌≡◌, ◌≢◌, ℕ, ◌==◌, Bool, true, false, if◌then◌else◌, List, [], ◌∷◌, ◌++◌, Option, None}
use Names.{Some, refl, sym, ap, ◌∙◌, append-nil, append_assoc, eq-eqb, ne_eqb, Field, Event}
use Names.{FieldsEvent, DataEvent, Reads, Requests, Responses, Phase, Place, Reading, first_broken}
use Names.{interim_rules, Part, FieldsPart, OctetsPart, Follows, BodyHanded, Token, after_both}
use Names.{after_none, part_on, handed_at, handed_as, part_of_event, tokens_of_part}
use Names.{tokens_of_parts, tokens_of_event, AtHead, InBody, AtEnd, IsReadable, phase_after_final}
use Names.{place_after, phase_after_all, phase_after_head, place_at_head, place_in, not_readable}
use Rattle.h2_ends.specs.Ends.{InterimHanded, HeadHanded, TrailersHanded}
use Rattle.h2_message.specs.Phases.{phase_after, asks_head_first}
use Rattle.std.specs.Prelude.{is_some}
use Rattle.h2_message.specs.declared.reading.Place.TheVariants as places

-- After no part the phase is the same.
after_no_part : (reads : Reads) (phase : Option Phase) → phase_after_all reads phase [] ≡ phase
unfolding phase_after_all
after_no_part reads None = refl
after_no_part reads (Some phase) = refl

-- One part is taken from its phase.
after_one : (reads : Reads) (phase : Phase) (part : Part × Bool)
    → phase_after_all reads (Some phase) (part ∷ []) ≡ phase_after reads phase part
unfolding phase_after_all
after_one reads phase part = after_no_part reads (phase_after reads phase part)

-- What is handed out is the part of its own stream.
head_here : (id : ℕ) (list : List Field) (end : Bool)
    → part_on id (HeadHanded id list end) ≡ (FieldsPart list, end) ∷ []
unfolding part_on
head_here id list end = rw (eq-eqb id id refl) refl

interim_here : (id : ℕ) (list : List Field)
    → part_on id (InterimHanded id list) ≡ (FieldsPart list, false) ∷ []
unfolding part_on
interim_here id list = rw (eq-eqb id id refl) refl

trailers_here : (id : ℕ) (list : List Field)
    → part_on id (TrailersHanded id list) ≡ (FieldsPart list, true) ∷ []
unfolding part_on
trailers_here id list = rw (eq-eqb id id refl) refl

body_here : (id : ℕ) (octets : List ℕ) (end : Bool)
    → part_on id (BodyHanded id octets end) ≡ (OctetsPart octets, end) ∷ []
unfolding part_on
body_here id octets end = rw (eq-eqb id id refl) refl

-- It is no part of any other one.
none_if_other : (i id : ℕ) (part : Part × Bool) → i ≢ id
    → (if id == i then part ∷ [] else []) ≡ []
none_if_other i id part other = rw (ne_eqb id i (λ same. other (sym same))) refl

place_elsewhere : (i id : ℕ) (place : Place) (list : List Field) (end : Bool) → i ≢ id
    → part_on i (handed_at place id list end) ≡ []
unfolding part_on handed_at
place_elsewhere i id places.Interim list end other =
    none_if_other i id (FieldsPart list, false) other
place_elsewhere i id places.Head list end other = none_if_other i id (FieldsPart list, end) other
place_elsewhere i id places.Trailers list end other =
    none_if_other i id (FieldsPart list, true) other

body_elsewhere : (i id : ℕ) (octets : List ℕ) (end : Bool) → i ≢ id
    → part_on i (BodyHanded id octets end) ≡ []
unfolding part_on
body_elsewhere i id octets end other = none_if_other i id (OctetsPart octets, end) other

pub handed_elsewhere : (reads : Reads) (parts : List (Part × Bool)) (i id : ℕ)
    (part : Part × Bool) → i ≢ id → part_on i (handed_as reads parts id part) ≡ []
unfolding handed_as
handed_elsewhere reads parts i id (FieldsPart list, end) other =
    place_elsewhere i id (place_after reads parts list) list end other
handed_elsewhere reads parts i id (OctetsPart octets, end) other =
    body_elsewhere i id octets end other

-- Where a head is due, an interim one has no END_STREAM.
here_by : (id : ℕ) (list : List Field) (broken end : Bool) (final : Option Phase) (next : Phase)
    → (if broken then final else (if end then None else Some AtHead)) ≡ Some next
    → part_on id (handed_at (if broken then places.Head else places.Interim) id list end)
    ≡ (FieldsPart list, end) ∷ []
unfolding handed_at
here_by id list true end final next is = head_here id list end
here_by id list false true final next is = cc
here_by id list false false final next is = interim_here id list

-- So it is with a field block that is taken where a head is due.
here_at_head : (reads : Reads) (id : ℕ) (list : List Field) (end : Bool) (next : Phase)
    → phase_after_head reads list end ≡ Some next
    → part_on id (handed_at (place_at_head reads list) id list end)
    ≡ (FieldsPart list, end) ∷ []
unfolding phase_after_head place_at_head handed_at
here_at_head Requests id list end next is = head_here id list end
here_at_head (Responses to_head) id list end next is =
    here_by id list (is_some (first_broken (interim_rules list))) end
    (phase_after_final (Responses to_head) list end) next is

-- After a final head, trailers have END_STREAM.
here_in_body : (reads : Reads) (left : Option ℕ) (id : ℕ) (list : List Field) (end : Bool)
    (next : Phase) → phase_after reads (InBody left) (FieldsPart list, end) ≡ Some next
    → part_on id (TrailersHanded id list) ≡ (FieldsPart list, end) ∷ []
unfolding phase_after
here_in_body reads left id list true next is = trailers_here id list
here_in_body reads left id list false next is = cc

-- A field block that is taken from this phase.
here_from : (reads : Reads) (phase : Option Phase) (id : ℕ) (list : List Field) (end : Bool)
    (next : Phase) → phase_after_all reads phase ((FieldsPart list, end) ∷ []) ≡ Some next
    → part_on id (handed_at (place_in reads phase list) id list end)
    ≡ (FieldsPart list, end) ∷ []
unfolding place_in handed_at phase_after
here_from reads None id list end next is =
    let none = after_none reads ((FieldsPart list, end) ∷ []) in cc
here_from reads (Some AtHead) id list end next is =
    here_at_head reads id list end next
    (sym (after_one reads AtHead (FieldsPart list, end)) ∙ is)
here_from reads (Some (InBody left)) id list end next is =
    here_in_body reads left id list end next
    (sym (after_one reads (InBody left) (FieldsPart list, end)) ∙ is)
here_from reads (Some AtEnd) id list end next is =
    let none : phase_after_all reads (Some AtEnd) ((FieldsPart list, end) ∷ []) ≡ None =
    after_one reads AtEnd (FieldsPart list, end) in cc

-- A part that a reading has taken is handed out as that part.
pub handed_here : (reads : Reads) (parts : List (Part × Bool)) (id : ℕ) (part : Part × Bool)
    (reading : Reading) → Follows reads (parts ++ part ∷ []) reading
    → part_on id (handed_as reads parts id part) ≡ part ∷ []
unfolding handed_as
handed_here reads parts id (FieldsPart list, end) reading follows =
    here_from reads (phase_after_all reads (Some AtHead) parts) id list end reading.phase
    (sym (after_both reads (Some AtHead) parts ((FieldsPart list, end) ∷ [])) ∙ follows.phase)
handed_here reads parts id (OctetsPart octets, end) reading follows = body_here id octets end

-- What can be read has a phase, and so is handed out as the part that it is.
pub has_phase : (found : Option Phase) → found ≢ None → (phase : Phase) × (found ≡ Some phase)
has_phase None some = absurd (some refl)
has_phase (Some phase) some = (phase, refl)

-- A reading of requests answers whether the first asks with HEAD, and one of responses never.
abbrev asks_read : Reads → List (Part × Bool) → Bool
asks_read Requests parts = asks_head_first parts
asks_read (Responses to_head) parts = false

asks_no_response : (reads : Reads) (parts : List (Part × Bool)) → reads ≢ Requests
    → asks_read reads parts ≡ false
asks_no_response Requests parts others = absurd (others refl)
asks_no_response (Responses to_head) parts others = refl

pub readable_here : (reads : Reads) (parts : List (Part × Bool)) (id : ℕ) (part : Part × Bool)
    → IsReadable reads (parts ++ part ∷ [])
    → part_on id (handed_as reads parts id part) ≡ part ∷ []
readable_here reads parts id part readable =
    let all = parts ++ part ∷ [] in
    let found = has_phase (phase_after_all reads (Some AtHead) all)
    (λ none. not_readable reads all none readable) in
    handed_here reads parts id part (record {
      reads = reads;
      phase = found.0;
      asks_head = asks_read reads all;
    }) (record {
      reads_is = refl;
      phase = found.1;
      readable = readable;
      asks_head = λ requests. rw requests refl;
      asks_none = λ others. asks_no_response reads all others;
    })

-- A stream and its part are the same where they are found as the same.
pub same_part : (one other : ℕ × (Part × Bool)) → Some one ≡ Some other
    → (one.0 ≡ other.0) × (one.1 ≡ other.1)
same_part one other is =
    let same : one ≡ other = cc in (
      ap (λ (found : ℕ × (Part × Bool)). found.0) same,
      ap (λ (found : ℕ × (Part × Bool)). found.1) same,
    )

-- What is no part of a message has no tokens.
pub no_tokens : (i : ℕ) (event : Event) → part_of_event event ≡ None → tokens_of_event i event ≡ []
unfolding part_of_event tokens_of_event
no_tokens i (FieldsEvent id list end) none = absurd (cc)
no_tokens i (DataEvent id octets flow end) none = absurd (cc)
no_tokens i event none = refl

-- The tokens of a part are those of its event, and on another stream there are none.
pub part_tokens : (event : Event) (id : ℕ) (part : Part × Bool)
    → part_of_event event ≡ Some (id, part) → tokens_of_event id event ≡ tokens_of_part part
unfolding part_of_event tokens_of_event tokens_of_part
part_tokens (FieldsEvent stream list end) id part of =
    let same = same_part (stream, (FieldsPart list, end)) (id, part) of in
    rw (← same.0, ← same.1, eq-eqb stream stream refl) refl
part_tokens (DataEvent stream octets flow end) id part of =
    let same = same_part (stream, (OctetsPart octets, end)) (id, part) of in
    rw (← same.0, ← same.1, eq-eqb stream stream refl) refl
part_tokens event id part of = absurd (cc)

pub other_tokens : (event : Event) (i id : ℕ) (part : Part × Bool)
    → part_of_event event ≡ Some (id, part) → i ≢ id → tokens_of_event i event ≡ []
unfolding part_of_event tokens_of_event
other_tokens (FieldsEvent stream list end) i id part of other =
    let same = same_part (stream, (FieldsPart list, end)) (id, part) of in
    rw (ne_eqb stream i (λ here. other (sym here ∙ same.0))) refl
other_tokens (DataEvent stream octets flow end) i id part of other =
    let same = same_part (stream, (OctetsPart octets, end)) (id, part) of in
    rw (ne_eqb stream i (λ here. other (sym here ∙ same.0))) refl
other_tokens event i id part of other = absurd (cc)

-- The tokens of parts with one more.
pub tokens_with : (parts : List (Part × Bool)) (part : Part × Bool)
    → tokens_of_parts (parts ++ part ∷ []) ≡ tokens_of_parts parts ++ tokens_of_part part
unfolding tokens_of_parts
tokens_with [] part = append-nil (tokens_of_part part)
tokens_with (first ∷ parts) part =
    ap (λ (tokens : List Token). tokens_of_part first ++ tokens) (tokens_with parts part)
    ∙ sym (append_assoc (tokens_of_part first) (tokens_of_parts parts) (tokens_of_part part))
