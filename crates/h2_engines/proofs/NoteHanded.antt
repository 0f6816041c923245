-- What was handed out at a server is kept as it is noted.
use Rattle.h2_engines.proofs.Names
use Names.{◌≡◌, ℕ, ◌≤◌, Bool, true, false, List, [], ◌∷◌, ◌++◌, length, Option, Some, None, refl}
use Names.{sym, ap, ◌∙◌, subst, inl, inr, arith, both_ways, cases_eq, Field, Server, Event}
use Names.{ResetEvent, Part, FieldsPart, OctetsPart, EndLog, EndTook, Handed, Passed, EndMayTake}
use Names.{said_for, parts_on, Next, Request, IsRequest, is_too_large_body, KeepsOthers}
use Names.{WasReportedReset, WasTooLarge, ends_message, body_in, KeepsNext, EndsRequest, AddsOctets}
use Names.{EndsKept, NotesHanded, NotesTaken, ◌≢◌, ◌⊎◌, Requests, RequestState, has_not_come, comes}
use Names.{was_answered, was_given_up, KeepsRequests, IsToAnswer, request_at, ChangesAt}
use Rattle.h2_engines.proofs.NoteBodies.{ends_last, is_large, is_not_large, not_large}
use Rattle.h2_engines.proofs.NoteBodies.{too_large_more, no_room, has_room, longer_request}
use Rattle.h2_engines.proofs.NoteBodies.{same_request, body_same}
use Rattle.h2_engines.proofs.TakeRequests.{HandsOut, hands_head, hands_body, hands_trailers}
use Rattle.h2_engines.proofs.TakeRequests.{hands_event, server_hands, Hands, HandedOne, head_hands}
use Rattle.h2_engines.proofs.TakeRequests.{body_hands, trailers_hands, event_besides, reset_now}
use Rattle.h2_engines.proofs.SameRequests.{SameOn, same_on, stands_as}
use Rattle.h2_engines.proofs.TakeMessages.{taken_says, take_keeps_calls}
use Rattle.h2_engines.specs.declared.request.Next.TheVariants as nexts

-- Where only what is kept of one stream changes, it stands so with all requests, or all others.
changes_all : {old new : Requests} (end : EndLog) {after : EndLog} {id : ℕ} {now : Option Request}
    → KeepsRequests old end → ChangesAt old new id now → ((i : ℕ) → i ≢ id → SameOn end after i)
    → RequestState after id now → KeepsRequests new after
changes_all {new} end {after} {id} keeps changes same one i = elim (cases_eq i id) [
  | inl here ↦ subst (λ (j : ℕ). RequestState after j (request_at j new)) (sym here)
      (subst (λ (request : Option Request). RequestState after id request) (sym changes.at) one)
  | inr other ↦ subst (λ (request : Option Request). RequestState after i request)
      (sym (changes.others i other)) (stands_as (same i other) (keeps i))
]

changes_others : {old new : Requests} (end after : EndLog) {id : ℕ} → KeepsRequests old end
    → ChangesAt old new id None → ((i : ℕ) → i ≢ id → SameOn end after i)
    → said_for id after.accepted ≡ None → KeepsOthers new after id
changes_others end after keeps changes same unsaid =
    record {
      others = λ i other. subst (λ (request : Option Request). RequestState after i request)
          (sym (changes.others i other)) (stands_as (same i other) (keeps i));
      none = changes.at;
      unanswered = unsaid;
    }

-- A request that goes on, or that is whole.
record HasRequest (end : EndLog) (id : ℕ) (last : Bool) (request : Request) : Type 0 where
  pub head : List Field
  pub head_last : Bool
  pub parts : List (Part × Bool)
  pub came : parts_on id end.handed ≡ (FieldsPart head, head_last) ∷ parts
  pub goes : last ≡ false → head_last ≡ false
  pub is_last : ends_message (parts_on id end.handed) ≡ last
  pub fits : is_too_large_body (parts_on id end.handed) ≡ false
  pub request_is : IsRequest head parts request
  pub unsaid : said_for id end.accepted ≡ None

request_comes : {end : EndLog} {id : ℕ} {request : Request} → HasRequest end id false request
    → RequestState end id (Some request)
request_comes {request} has =
    comes has.head has.parts request
    (has.came ∙ ap (λ (last : Bool). (FieldsPart has.head, last) ∷ has.parts) (has.goes refl))
    has.is_last has.fits has.request_is has.unsaid

request_whole : {end : EndLog} {id : ℕ} {request : Request} → HasRequest end id true request
    → IsToAnswer end id request
request_whole has =
    record {
      whole = has.is_last;
      fits = has.fits;
      head = has.head;
      end_of_head = has.head_last;
      parts = has.parts;
      came = has.came;
      request_is = has.request_is;
    }

-- It is to be answered, or kept.

ends_request : (old new : Requests) (end : EndLog) {after : EndLog} {id : ℕ} (last : Bool)
    {request : Request} (next : Next) → KeepsRequests old end
    → ((i : ℕ) → i ≢ id → SameOn end after i) → HasRequest after id last request
    → EndsRequest old new id last request next → KeepsNext new after next
unfolding EndsRequest KeepsNext
ends_request old new end {after} true next keeps same has ended =
    rw ended.0 (
      changes_others end after keeps ended.1 same has.unsaid,
      request_whole has,
    )
ends_request old new end {after} false next keeps same has ended =
    rw ended.0 (changes_all end keeps ended.1 same (request_comes has))

-- Where nothing is kept of a stream, it goes on.
drops_request : {old new : Requests} (end : EndLog) {after : EndLog} {id : ℕ} {next : Next}
    → KeepsRequests old end → ((i : ℕ) → i ≢ id → SameOn end after i) → next ≡ nexts.Again
    → ChangesAt old new id None → RequestState after id None → KeepsNext new after next
unfolding KeepsNext
drops_request {new} end {after} keeps same again changes one =
    rw again (changes_all end keeps changes same one)

-- A stream that goes on was not answered.
not_answered : {end : EndLog} {id : ℕ} {request : Option Request}
    → ends_message (parts_on id end.handed) ≡ false → RequestState end id request
    → said_for id end.accepted ≡ None
not_answered goes (has_not_come none unsaid) = unsaid
not_answered goes (comes head parts kept are on fits is unsaid) = unsaid
not_answered goes (was_answered was) = absurd (both_ways _ goes was.whole)
not_answered goes (was_given_up why unsaid) = unsaid

-- A stream that was given up still was with one part more.
given_up_more : {end after : EndLog} {id : ℕ} {part : Part × Bool} → Hands end after id part
    → WasReportedReset end id ⊎ WasTooLarge end id
    → WasReportedReset after id ⊎ WasTooLarge after id
given_up_more hands (inl reset) = inl (hands.resets reset)
given_up_more {end} {id} {part} hands (inr large) =
    inr (record {
      too_large = ap is_too_large_body hands.parts ∙ too_large_more _ _ large.too_large;
      reset = hands.calls _ _ large.reset;
    })

still_given_up : (end after : EndLog) (id : ℕ) (part : Part × Bool) (request : Option Request)
    → request ≡ None → Hands end after id part → parts_on id end.handed ≢ []
    → ends_message (parts_on id end.handed) ≡ false → RequestState end id request
    → RequestState after id None
still_given_up end after id part request none hands some goes (has_not_come nothing unsaid) =
    absurd (some nothing)
still_given_up end after id part request none hands some goes
    (comes head parts kept are on fits is unsaid) = absurd (cc)
still_given_up end after id part request none hands some goes (was_answered was) =
    absurd (both_ways _ goes was.whole)
still_given_up end after id part request none hands some goes (was_given_up why unsaid) =
    was_given_up (given_up_more hands why) (hands.message ∙ unsaid)

-- A request of which something is kept.
record IsComing (end : EndLog) (id : ℕ) (request : Request) : Type 0 where
  pub head : List Field
  pub parts : List (Part × Bool)
  pub came : parts_on id end.handed ≡ (FieldsPart head, false) ∷ parts
  pub fits : is_too_large_body (parts_on id end.handed) ≡ false
  pub request_is : IsRequest head parts request
  pub unsaid : said_for id end.accepted ≡ None

is_coming : (end : EndLog) (id : ℕ) (kept : Option Request) (request : Request)
    → kept ≡ Some request → RequestState end id kept → IsComing end id request
is_coming end id kept request some (has_not_come nothing unsaid) = absurd (cc)
is_coming end id kept request some (comes head parts one are on fits is unsaid) =
    let same : one ≡ request = cc in
    record {
      head = head;
      parts = parts;
      came = are;
      fits = fits;
      request_is = subst (IsRequest head parts) same is;
      unsaid = unsaid;
    }
is_coming end id kept request some (was_answered was) = absurd (cc)
is_coming end id kept request some (was_given_up why unsaid) = absurd (cc)

-- With one part more it has come so far.
came_more : {end after : EndLog} {id : ℕ} {part : Part × Bool} {request : Request}
    (coming : IsComing end id request) → Hands end after id part
    → parts_on id after.handed ≡ (FieldsPart coming.head, false) ∷ (coming.parts ++ part ∷ [])
came_more {part} coming hands =
    hands.parts ∙ ap (λ (parts : List (Part × Bool)). parts ++ part ∷ []) coming.came

has_more : {end after : EndLog} {id : ℕ} (part : Part) (last : Bool) {old new : Request}
    (coming : IsComing end id old) → Hands end after id (part, last)
    → IsRequest coming.head (coming.parts ++ (part, last) ∷ []) new
    → length (body_in (coming.parts ++ (part, last) ∷ [])) ≤ 1048576 → HasRequest after id last new
has_more {end} {id} part last coming hands is few =
    let came = came_more coming hands in
    record {
      head = coming.head;
      head_last = false;
      parts = coming.parts ++ (part, last) ∷ [];
      came = came;
      goes = λ on. refl;
      is_last = ap ends_message hands.parts ∙ ends_last (parts_on id end.handed) part last;
      fits = is_not_large (coming.parts ++ (part, last) ∷ []) coming.head false came few;
      request_is = is;
      unsaid = hands.message ∙ coming.unsaid;
    }

-- A head is noted.
notes_head : (old new : Requests) {end after : EndLog} {id : ℕ} {list : List Field} (last : Bool)
    {request : Request} (next : Next) → KeepsRequests old end → parts_on id end.handed ≡ []
    → Hands end after id (FieldsPart list, last) → IsRequest list [] request
    → EndsRequest old new id last request next → KeepsNext new after next
unfolding ends_message body_in
notes_head old new {end} {after} {id} {list} last {request} next keeps none hands is ended =
    let came : parts_on id after.handed ≡ (FieldsPart list, last) ∷ [] =
    hands.parts ∙ ap (λ (parts : List (Part × Bool)). parts ++ (FieldsPart list, last) ∷ []) none
    in
    ends_request old new end {after = after} {id = id} last {request = request} next keeps
    hands.others (record {
      head = list;
      head_last = last;
      parts = [];
      came = came;
      goes = λ on. on;
      is_last = ap ends_message came;
      fits = is_not_large [] list last came (omega arith);
      request_is = is;
      unsaid = hands.message ∙ not_answered (ap ends_message none) (keeps id);
    }) ended

-- Octets are noted, by what is kept.
notes_octets : (old new : Requests) {end after : EndLog} {id : ℕ} (octets : List ℕ) (last : Bool)
    (kept : Option Request) (next : Next) → request_at id old ≡ kept → KeepsRequests old end
    → parts_on id end.handed ≢ [] → ends_message (parts_on id end.handed) ≡ false
    → Hands end after id (OctetsPart octets, last) → AddsOctets old new id octets last kept next
    → KeepsNext new after next
unfolding AddsOctets KeepsNext
notes_octets old new {end} {after} {id} octets last None next at keeps some goes hands adds =
    drops_request end keeps hands.others adds.0 adds.1 (still_given_up end after id
    (OctetsPart octets, last) (request_at id old) at hands some goes (keeps id))
notes_octets old new {end} {after} {id} octets last (Some request) next at keeps some goes hands
    (inl (less, resets, changes)) =
    let coming = is_coming _ _ _ request at (keeps id) in
    let part : Part × Bool = (OctetsPart octets, last) in
    rw resets (
      changes_others _ _ keeps changes hands.others (hands.message ∙ coming.unsaid),
      is_large _ coming.head false (came_more coming hands) (no_room _ _ coming.request_is less),
    )
notes_octets old new {end} {id} octets last (Some request) next at keeps some goes hands
    (inr (enough, (longer, is, ended))) =
    let coming = is_coming end id (request_at id old) request at (keeps id) in
    let few = not_large coming.parts coming.head false coming.came coming.fits in
    ends_request old new end last next keeps hands.others (has_more (OctetsPart octets) last coming
    hands (longer_request last coming.request_is is)
    (has_room octets last coming.request_is few enough)) ended

-- Trailers are noted.
notes_trailers : (old new : Requests) {end after : EndLog} {id : ℕ} (list : List Field)
    (kept : Option Request) (next : Next) → request_at id old ≡ kept → KeepsRequests old end
    → parts_on id end.handed ≢ [] → ends_message (parts_on id end.handed) ≡ false
    → Hands end after id (FieldsPart list, true) → EndsKept old new id kept next
    → KeepsNext new after next
unfolding EndsKept
notes_trailers old new {end} {after} {id} list None next at keeps some goes hands ended =
    drops_request end keeps hands.others ended.0 ended.1 (still_given_up end after id
    (FieldsPart list, true) (request_at id old) at hands some goes (keeps id))
notes_trailers old new {end} {id} list (Some request) next at keeps some goes hands ended =
    let coming = is_coming _ _ (request_at id old) request at (keeps id) in
    let few = not_large coming.parts coming.head false coming.came coming.fits in
    ends_request old new end true next keeps hands.others (has_more (FieldsPart list) true coming
    hands (same_request list true coming.request_is) (subst
    (λ (body : List ℕ). length body ≤ 1048576) (sym (body_same coming.parts list true)) few)) ended

-- Where nothing of a request was handed out, and nothing is noted.
notes_nothing : {old new : Requests} (end after : EndLog) (next : Next) → KeepsRequests old end
    → ((i : ℕ) → SameOn end after i) → new ≡ old → KeepsRequests new after
notes_nothing end after next keeps same is = rw is (λ i. stands_as (same i) (keeps i))

goes_on : (requests : Requests) (end : EndLog) (next : Next)
    → (next ≡ nexts.Again) ⊎ (next ≡ nexts.Done) → KeepsRequests requests end
    → KeepsNext requests end next
unfolding KeepsNext
goes_on requests end next (inl again) keeps = rw again keeps
goes_on requests end next (inr done) keeps = rw done keeps

-- A reset is noted.
after_reset : {end after : EndLog} {id : ℕ} {request : Option Request} → SameOn end after id
    → WasReportedReset after id → RequestState end id request → RequestState after id None
after_reset same reset (has_not_come none unsaid) =
    was_given_up (inl reset) (same.message ∙ unsaid)
after_reset same reset (comes head parts kept are on fits is unsaid) =
    was_given_up (inl reset) (same.message ∙ unsaid)
after_reset same reset (was_answered was) = stands_as same (was_answered was)
after_reset same reset (was_given_up why unsaid) = was_given_up (inl reset) (same.message ∙ unsaid)

-- An event is noted.
notes_event : (old new : Requests) {end after : EndLog} (event : Event) (next : Next)
    → KeepsRequests old end → HandedOne end after (Passed event)
    → NotesHanded old new (Passed event) next → KeepsNext new after next
unfolding NotesHanded
notes_event old new {end} (ResetEvent id code ours) next keeps hands notes =
    drops_request end keeps (λ i other. event_besides i hands) notes.0 notes.1
    (after_reset (event_besides id hands) (reset_now id code ours hands) (keeps id))
notes_event old new {end} {after} event next keeps hands notes =
    goes_on new after next (inl notes.0)
    (notes_nothing end after next keeps (λ i. event_besides i hands) notes.1)

-- Whatever was handed out is noted.
notes_one : (old new : Requests) {end : EndLog} (after : EndLog) {one : Handed} (next : Next)
    → KeepsRequests old end → HandsOut end one → HandedOne end after one
    → NotesHanded old new one next → KeepsNext new after next
unfolding NotesHanded
notes_one old new after next keeps (hands_head id list last none) hands notes =
    notes_head old new last next keeps none (head_hands hands) notes.1 notes.2
notes_one old new after next keeps (hands_body id octets last some goes) hands notes =
    notes_octets old new octets last _ next refl keeps some goes (body_hands hands) notes
notes_one old new after next keeps (hands_trailers id list some goes) hands notes =
    notes_trailers old new list _ next refl keeps some goes (trailers_hands hands) notes
notes_one old new after next keeps (hands_event event) hands notes =
    notes_event old new event next keeps hands notes

pub kept_noted : {end after : EndLog} {piece : List ℕ} {count : ℕ} (handed : Option Handed)
    (old new : Requests) (next : Next) → end.log.role ≡ Server → KeepsRequests old end
    → EndMayTake end piece (EndTook count handed) after → NotesTaken old new handed next
    → KeepsNext new after next
unfolding NotesTaken
kept_noted {end} {after} None old new next role keeps may notes =
    let says = taken_says may in
    goes_on new after next notes.0 (notes_nothing end after next keeps
    (λ i. same_on end after i says.accepted says.handed (take_keeps_calls may)) notes.1)
kept_noted {end} {after} (Some one) old new next role keeps may notes =
    let says = taken_says may in
    notes_one old new after next keeps (server_hands end role says.says.3)
    (record { handed = says.handed; accepted = says.accepted; calls = take_keeps_calls may }) notes
