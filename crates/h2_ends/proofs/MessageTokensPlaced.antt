-- What is handed out on a stream, part by part, is what its place says: interim heads, the head
-- and trailers.
use Rattle.h2_ends.proofs.Names
use Names.{◌≡◌, ◌≢◌, ℕ, ◌==◌, ◌-◌, Bool, true, false, List, [], if◌then◌else◌, ◌∷◌, ◌++◌, length}
use Names.{Option, None, Some, refl, sym, ap, ◌∙◌, append-nil, append_assoc, eq-eqb, ne_eqb, Field}
use Names.{Reads, Requests, Responses, Phase, Place, first_broken, interim_rules, Part, FieldsPart}
use Names.{OctetsPart, final_rules, after_none, after_both, BodyHanded, part_on, handed_at}
use Names.{handed_as, compared_length, AtHead, InBody, AtEnd, place_after, phase_after_final}
use Names.{phase_after_head, phase_after_all, place_at_head, place_in, trailer_rules}
use Rattle.h2_message.specs.Phases.{phase_after, is_short, phase_in_body, phase_after_data}
use Rattle.h2_ends.specs.MessageTokens.{MessageToken, ListToken, BodyToken, last_tokens}
use Rattle.h2_ends.specs.MessageTokens.{parts_heard_in}
use Rattle.std.proofs.Common.{map as each}
use Rattle.std.specs.Prelude.{nat_lt, is_some, not, ◌||◌}
use Rattle.h2_message.specs.declared.reading.Place.TheVariants as places

-- what a list of fields is, by whether a final head has come before it, and by whether requests
-- are read
abbrev pub place_where : (begun server : Bool) → List Field → Place
place_where true server list = places.Trailers
place_where false true list = places.Head
place_where false false list =
    if is_some (first_broken (interim_rules list)) then places.Head else places.Interim

-- Whether a final head has come, once a list has come there.
abbrev pub begins_body : Place → Bool
begins_body places.Interim = false
begins_body places.Head = true
begins_body places.Trailers = true

-- Whether one has come, once a part has come,
abbrev pub begun_by : (begun server : Bool) → (Part × Bool) → Bool
begun_by begun server (FieldsPart list, end) = begins_body (place_where begun server list)
begun_by begun server (OctetsPart octets, end) = begun

-- and once several parts have come, the first one first.
unfoldable pub begun_after : (begun server : Bool) → List (Part × Bool) → Bool
begun_after begun server [] = begun
begun_after begun server (part ∷ parts) = begun_after (begun_by begun server part) server parts

-- what a part of a message is
abbrev pub placed_part : (begun server : Bool) → (Part × Bool) → List MessageToken
placed_part begun server (FieldsPart list, end) =
    ListToken (place_where begun server list) list ∷ last_tokens end
placed_part begun server (OctetsPart octets, end) = each BodyToken octets ++ last_tokens end

-- what the parts of a message are, the first one first
unfoldable pub parts_placed : (begun server : Bool) → List (Part × Bool) → List MessageToken
parts_placed begun server [] = []
parts_placed begun server (part ∷ parts) =
    placed_part begun server part ++ parts_placed (begun_by begun server part) server parts

-- One part more follows what the parts before it are.
pub placed_more : (begun server : Bool) (parts : List (Part × Bool)) (part : Part × Bool)
    → parts_placed begun server (parts ++ part ∷ [])
    ≡ parts_placed begun server parts ++ placed_part (begun_after begun server parts) server part
unfolding parts_placed begun_after
placed_more begun server [] part = append-nil (placed_part begun server part)
placed_more begun server (first ∷ parts) part =
    ap (λ (tokens : List MessageToken). placed_part begun server first ++ tokens)
    (placed_more (begun_by begun server first) server parts part)
    ∙ sym (append_assoc (placed_part begun server first)
    (parts_placed (begun_by begun server first) server parts) _)

-- Whether requests are read.
abbrev pub reads_requests : Reads → Bool
reads_requests Requests = true
reads_requests (Responses to_head) = false

-- Whether a final head has come before a phase.
abbrev pub is_begun : Phase → Bool
is_begun AtHead = false
is_begun (InBody left) = true
is_begun AtEnd = true

-- What is something though a test may make it nothing is what it was.
passed_test : {X : Type 0} (test : Bool) (option : Option X) (value : X)
    → (if test then None else option) ≡ Some value → option ≡ Some value
passed_test true option value is = cc
passed_test false option value is = is

-- In a body, and where one ends, a final head has come,
begun_in_body : (left : Option ℕ) (end : Bool) (next : Phase) → phase_in_body left end ≡ Some next
    → is_begun next ≡ true
unfolding phase_in_body
begun_in_body left false next is = let same : InBody left ≡ next = cc in rw (← same) refl
begun_in_body left true next is =
    let last = passed_test (is_short left) (Some AtEnd) next is in
    let same : AtEnd ≡ next = cc in rw (← same) refl

-- after octets of a body too,
begun_by_data : (left : Option ℕ) (count : ℕ) (end : Bool) (next : Phase)
    → phase_after_data left count end ≡ Some next → is_begun next ≡ true
unfolding phase_after_data
begun_by_data None count end next is = begun_in_body None end next is
begun_by_data (Some number) count end next is =
    begun_in_body (Some (number - count)) end next
    (passed_test (nat_lt number count) (phase_in_body (Some (number - count)) end) next is)

-- and after a final head itself.
begun_by_final : (reads : Reads) (list : List Field) (end : Bool) (next : Phase)
    → phase_after_final reads list end ≡ Some next → is_begun next ≡ true
unfolding phase_after_final
begun_by_final reads list end next is =
    begun_in_body (compared_length reads list) end next
    (passed_test (is_some (first_broken (final_rules reads list)))
    (phase_in_body (compared_length reads list) end) next is)

-- After a list where a head is due a final head has come, unless the list is an interim one.
begun_by_head : (list : List Field) (broken end : Bool) (final : Option Phase) (next : Phase)
    → (final ≡ Some next → is_begun next ≡ true)
    → (if broken then final else (if end then None else Some AtHead)) ≡ Some next
    → begins_body (if broken then places.Head else places.Interim) ≡ is_begun next
begun_by_head list true end final next begun is = sym (begun is)
begun_by_head list false true final next begun is = cc
begun_by_head list false false final next begun is =
    let same : AtHead ≡ next = cc in rw (← same) refl

-- So it is with one part that is taken from a phase,
part_begins : (reads : Reads) (phase next : Phase) (part : Part × Bool)
    → phase_after reads phase part ≡ Some next
    → begun_by (is_begun phase) (reads_requests reads) part ≡ is_begun next
unfolding phase_after phase_after_head
part_begins Requests AtHead next (FieldsPart list, end) is =
    sym (begun_by_final Requests list end next is)
part_begins (Responses to_head) AtHead next (FieldsPart list, end) is =
    begun_by_head list (is_some (first_broken (interim_rules list))) end
    (phase_after_final (Responses to_head) list end) next
    (begun_by_final (Responses to_head) list end next) is
part_begins reads AtHead next (OctetsPart octets, end) is = cc
part_begins reads (InBody left) next (FieldsPart list, end) is =
    let last = passed_test (not end || is_short left
    || is_some (first_broken (trailer_rules list))) (Some AtEnd) next is in
    let same : AtEnd ≡ next = cc in rw (← same) refl
part_begins reads (InBody left) next (OctetsPart octets, end) is =
    sym (begun_by_data left (length octets) end next is)
part_begins reads AtEnd next part is = cc

-- and with several.
parts_begin : (reads : Reads) (phase next : Phase) (parts : List (Part × Bool))
    → phase_after_all reads (Some phase) parts ≡ Some next
    → begun_after (is_begun phase) (reads_requests reads) parts ≡ is_begun next
unfolding phase_after_all begun_after
parts_begin reads phase next [] is = let same : phase ≡ next = cc in rw (← same) refl
parts_begin reads phase next (part ∷ parts) is =
    elim (phase_after reads phase part) as (λ (after : Option Phase).
    phase_after reads phase part ≡ after → phase_after_all reads after parts ≡ Some next
    → begun_after (begun_by (is_begun phase) (reads_requests reads) part) (reads_requests reads)
    parts ≡ is_begun next) [
      | None ↦ λ one others. let none = after_none reads parts in cc
      | Some after ↦ λ one others.
          rw (part_begins reads phase after part one) (parts_begin reads after next parts others)
    ] refl is

-- A list that is taken has the place that its phase says,
place_from : (reads : Reads) (phase next : Phase) (list : List Field) (end : Bool)
    → phase_after_all reads (Some phase) ((FieldsPart list, end) ∷ []) ≡ Some next
    → place_in reads (Some phase) list ≡ place_where (is_begun phase) (reads_requests reads) list
unfolding phase_after_all phase_after place_in place_at_head
place_from Requests AtHead next list end is = refl
place_from (Responses to_head) AtHead next list end is = refl
place_from reads (InBody left) next list end is = refl
place_from reads AtEnd next list end is = cc

-- and so the one that the parts before it say.
place_after_parts : (reads : Reads) (parts : List (Part × Bool)) (before : Option Phase)
    (next : Phase) (list : List Field) (end : Bool)
    → phase_after_all reads (Some AtHead) parts ≡ before
    → phase_after_all reads before ((FieldsPart list, end) ∷ []) ≡ Some next
    → place_in reads before list
    ≡ place_where (begun_after false (reads_requests reads) parts) (reads_requests reads) list
place_after_parts reads parts None next list end was is =
    let none = after_none reads ((FieldsPart list, end) ∷ []) in cc
place_after_parts reads parts (Some phase) next list end was is =
    rw (parts_begin reads AtHead phase parts was) (place_from reads phase next list end is)

-- Two parts that are one have END_STREAM both, or neither.
end_same : (part other : Part × Bool) → part ∷ [] ≡ other ∷ [] → part.1 ≡ other.1
end_same part other is =
    let one : part ≡ other = cc in ap (λ (any : Part × Bool). any.1) one

-- A list that is handed out as the part that it is, is heard at its place,
heard_as_part : (id : ℕ) (place : Place) (list : List Field) (end : Bool)
    → part_on id (handed_at place id list end) ≡ (FieldsPart list, end) ∷ []
    → parts_heard_in id (handed_at place id list end) ≡ ListToken place list ∷ last_tokens end
unfolding part_on handed_at parts_heard_in last_tokens
heard_as_part id places.Interim list false is = rw (eq-eqb id id refl) refl
heard_as_part id places.Interim list true is =
    let wrong = end_same (FieldsPart list, false) (FieldsPart list, true)
    (rw (eq-eqb id id refl) at is) in cc
heard_as_part id places.Head list end is = rw (eq-eqb id id refl) refl
heard_as_part id places.Trailers list true is = rw (eq-eqb id id refl) refl
heard_as_part id places.Trailers list false is =
    let wrong = end_same (FieldsPart list, true) (FieldsPart list, false)
    (rw (eq-eqb id id refl) at is) in cc

-- and octets as those of a body.
octets_heard : (id : ℕ) (octets : List ℕ) (end : Bool)
    → parts_heard_in id (BodyHanded id octets end) ≡ each BodyToken octets ++ last_tokens end
unfolding parts_heard_in
octets_heard id octets end = rw (eq-eqb id id refl) refl

-- So a part that is taken after others is heard as what it is after them.
pub heard_here : (reads : Reads) (parts : List (Part × Bool)) (id : ℕ) (part : Part × Bool)
    (next : Phase) → phase_after_all reads (Some AtHead) (parts ++ part ∷ []) ≡ Some next
    → part_on id (handed_as reads parts id part) ≡ part ∷ []
    → parts_heard_in id (handed_as reads parts id part)
    ≡ placed_part (begun_after false (reads_requests reads) parts) (reads_requests reads) part
unfolding handed_as
heard_here reads parts id (FieldsPart list, end) next taken is =
    heard_as_part id (place_after reads parts list) list end is
    ∙ ap (λ (place : Place). ListToken place list ∷ last_tokens end)
    (place_after_parts reads parts (phase_after_all reads (Some AtHead) parts) next list end refl
    (sym (after_both reads (Some AtHead) parts ((FieldsPart list, end) ∷ [])) ∙ taken))
heard_here reads parts id (OctetsPart octets, end) next taken is = octets_heard id octets end

-- Nothing of it is heard on another stream.
none_if_other : (i id : ℕ) (tokens : List MessageToken) → i ≢ id
    → (if id == i then tokens else []) ≡ []
none_if_other i id tokens other = rw (ne_eqb id i (λ same. other (sym same))) refl

place_elsewhere : (i id : ℕ) (place : Place) (list : List Field) (end : Bool) → i ≢ id
    → parts_heard_in i (handed_at place id list end) ≡ []
unfolding parts_heard_in handed_at
place_elsewhere i id places.Interim list end other = none_if_other i id _ other
place_elsewhere i id places.Head list end other = none_if_other i id _ other
place_elsewhere i id places.Trailers list end other = none_if_other i id _ other

pub heard_elsewhere : (reads : Reads) (parts : List (Part × Bool)) (i id : ℕ)
    (part : Part × Bool) → i ≢ id → parts_heard_in i (handed_as reads parts id part) ≡ []
unfolding handed_as parts_heard_in
heard_elsewhere reads parts i id (FieldsPart list, end) other =
    place_elsewhere i id (place_after reads parts list) list end other
heard_elsewhere reads parts i id (OctetsPart octets, end) other = none_if_other i id _ other
