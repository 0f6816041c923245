-- What a server keeps of requests that aren't whole, and a client of its response.
use Rattle.std.specs.Prelude.{◌≡◌, ◌≢◌, ◌⊎◌, ◌<◌, ◌≤◌, ℕ, ◌-◌, Bool, true, false, List, [], ◌∷◌}
use Rattle.std.specs.Prelude.{◌++◌, length, map as each, option_map, Option, Some, None}
use Rattle.std.specs.List.{AllByRecursion, concat}
use Rattle.h2_numbers.specs.Entries.{value_at}
use Rattle.h2_numbers.specs.Tables.{all_of}
use Rattle.hpack.specs.declared.types.field.Field.{Field}
use Rattle.h2_spec_log.specs.Events.{ResetEvent}
use Rattle.h2_message.specs.Messages.{first_broken, interim_rules}
use Rattle.h2_message.specs.Phases.{ends_message}
use Rattle.h2_message.specs.Reading.{Part, FieldsPart, OctetsPart, BreakNone}
use Rattle.h2_ends.specs.Ends.{EndLog, Handed, HeadHanded, BodyHanded, TrailersHanded, Passed}
use Rattle.h2_ends.specs.Ends.{said_for, parts_on}
use Rattle.h2_engines.specs.declared.request.Next.{Next}
use Rattle.h2_engines.specs.declared.request.Next.TheVariants as nexts
use Rattle.h2_engines.specs.declared.request.Request.{Request}
use Rattle.h2_engines.specs.declared.request.Requests.{Requests}
use Rattle.h2_engines.specs.declared.fetcher.Coming.{Coming}
use Rattle.h2_engines.specs.declared.fetcher.Fetched.{Fetched}
use Rattle.h2_engines.specs.Answers.{IsRequest, is_too_large_body, greatest_body}
use Rattle.h2_engines.specs.ServerHistories.{WasReportedReset, WasTooLarge, WasAnswered}
use Rattle.h2_engines.specs.ClientHistories.{IsFetched}

-- what is kept of the request on a stream
abbrev pub request_at : ℕ → Requests → Option Request
request_at id requests = value_at id (all_of requests.kept)

-- The state of the request on a stream, and what is kept of it.
pub data RequestState (end : EndLog) (id : ℕ) : Option Request → Type 0 where
  has_not_come : parts_on id end.handed ≡ [] → said_for id end.accepted ≡ None
      → RequestState end id None
  comes : (head : List Field) (parts : List (Part × Bool)) (request : Request)
      → parts_on id end.handed ≡ (FieldsPart head, false) ∷ parts
      → ends_message (parts_on id end.handed) ≡ false
      → is_too_large_body (parts_on id end.handed) ≡ false → IsRequest head parts request
      → said_for id end.accepted ≡ None → RequestState end id (Some request)
  was_answered : WasAnswered end id → RequestState end id None
  was_given_up : WasReportedReset end id ⊎ WasTooLarge end id → said_for id end.accepted ≡ None
      → RequestState end id None

-- Each request is in such a state.
abbrev pub KeepsRequests : Requests → EndLog → Type 0
KeepsRequests requests end = (id : ℕ) → RequestState end id (request_at id requests)

-- Each request but one is in such a state; of that one nothing is kept, and it was not answered.
pub record KeepsOthers (requests : Requests) (end : EndLog) (id : ℕ) : Type 0 where
  pub others : (i : ℕ) → i ≢ id → RequestState end i (request_at i requests)
  pub none : request_at id requests ≡ None
  pub unanswered : said_for id end.accepted ≡ None

-- The request is whole, and to be answered next.
pub record IsToAnswer (end : EndLog) (id : ℕ) (request : Request) : Type 0 where
  pub whole : ends_message (parts_on id end.handed) ≡ true
  pub fits : is_too_large_body (parts_on id end.handed) ≡ false
  pub head : List Field
  pub end_of_head : Bool
  pub parts : List (Part × Bool)
  pub came : parts_on id end.handed ≡ (FieldsPart head, end_of_head) ∷ parts
  pub request_is : IsRequest head parts request

-- what is kept, by what is to be done
unfoldable pub KeepsNext : Requests → EndLog → Next → Type 0
KeepsNext requests end (nexts.Answer id request) =
    KeepsOthers requests end id × IsToAnswer end id request
KeepsNext requests end (nexts.Reset id) =
    KeepsOthers requests end id × (is_too_large_body (parts_on id end.handed) ≡ true)
KeepsNext requests end nexts.Whole = ⊥
KeepsNext requests end next = KeepsRequests requests end

-- Of one stream this is kept now, and of the others what was.
pub record ChangesAt (old new : Requests) (id : ℕ) (now : Option Request) : Type 0 where
  pub at : request_at id new ≡ now
  pub others : (i : ℕ) → i ≢ id → request_at i new ≡ request_at i old

-- A request is whole, and is to be answered; or it isn't, and is kept.
unfoldable pub EndsRequest : (old new : Requests) → ℕ → (end : Bool) → Request → Next → Type 0
EndsRequest old new id true request next =
    (next ≡ nexts.Answer id request) × ChangesAt old new id None
EndsRequest old new id false request next =
    (next ≡ nexts.Again) × ChangesAt old new id (Some request)

-- The request has more octets of its body.
pub record IsLonger (old : Request) (octets : List ℕ) (new : Request) : Type 0 where
  pub text : new.text.items ≡ old.text.items ++ octets
  pub start : new.start ≡ old.start
  pub to_head : new.to_head ≡ old.to_head

-- how many octets of a body may follow
abbrev pub body_room : Request → ℕ
body_room request = greatest_body - (length request.text.items - request.start)

-- octets of a body are added to what is kept, if any is
unfoldable pub AddsOctets : (old new : Requests) → ℕ → List ℕ → (end : Bool) → Option Request → Next
    → Type 0
AddsOctets old new id octets end None next =
    (next ≡ nexts.Again) × ChangesAt old new id None
AddsOctets old new id octets end (Some request) next =
    ((body_room request < length octets) × (next ≡ nexts.Reset id) × ChangesAt old new id None)
    ⊎ ((length octets ≤ body_room request)
    × ((longer : Request) × IsLonger request octets longer
    × EndsRequest old new id end longer next))

-- a request ends with trailers, if it is kept
unfoldable pub EndsKept : (old new : Requests) → ℕ → Option Request → Next → Type 0
EndsKept old new id None next = (next ≡ nexts.Again) × ChangesAt old new id None
EndsKept old new id (Some request) next = EndsRequest old new id true request next

-- what was handed out is kept, and what is to be done
unfoldable pub NotesHanded : (old new : Requests) → Handed → Next → Type 0
NotesHanded old new (HeadHanded id list end) next =
    (request : Request) × IsRequest list [] request × EndsRequest old new id end request next
NotesHanded old new (BodyHanded id octets end) next =
    AddsOctets old new id octets end (request_at id old) next
NotesHanded old new (TrailersHanded id list) next = EndsKept old new id (request_at id old) next
NotesHanded old new (Passed (ResetEvent id code ours)) next =
    (next ≡ nexts.Again) × ChangesAt old new id None
NotesHanded old new handed next = (next ≡ nexts.Again) × (new ≡ old)

-- the same of a call of `take`; where nothing was handed out, it goes on or is done
unfoldable pub NotesTaken : (old new : Requests) → Option Handed → Next → Type 0
NotesTaken old new None next = ((next ≡ nexts.Again) ⊎ (next ≡ nexts.Done)) × (new ≡ old)
NotesTaken old new (Some handed) next = NotesHanded old new handed next

-- interim responses, as parts
abbrev pub interim_parts : List (List Field) → List (Part × Bool)
interim_parts interims = each (λ list. (FieldsPart list, false)) interims

-- octets of a body that goes on, as parts
abbrev pub data_parts_of : List (List ℕ) → List (Part × Bool)
data_parts_of data_parts = each (λ octets. (OctetsPart octets, false)) data_parts

-- The interim responses that came are such, and the head that came is none.
pub record AreHeadsSoFar (coming : Coming) : Type 0 where
  pub interims : AllByRecursion (λ fields. BreakNone (interim_rules fields))
      (each (λ list. list.items) coming.interims.items)
  pub head : (head : List Field) → option_map (λ list. list.items) coming.head ≡ Some head
      → first_broken (interim_rules head) ≢ None

-- These parts of a response have come, the first one first: interim responses alone; or the head
-- too, and octets of the body.
pub data HasCome (coming : Coming) : List (Part × Bool) → Type 0 where
  interims_alone : AreHeadsSoFar coming → coming.head ≡ None → coming.body.items ≡ []
      → coming.trailers ≡ None
      → HasCome coming (interim_parts (each (λ list. list.items) coming.interims.items))
  head_and_body : AreHeadsSoFar coming → (head : List Field) (data_parts : List (List ℕ))
      → option_map (λ list. list.items) coming.head ≡ Some head
      → coming.body.items ≡ concat data_parts → coming.trailers ≡ None
      → HasCome coming (interim_parts (each (λ list. list.items) coming.interims.items)
      ++ (FieldsPart head, false) ∷ data_parts_of data_parts)

-- The response is whole: with its head it is what was fetched.
abbrev pub IsWhole : Coming → List (Part × Bool) → Type 0
IsWhole coming parts =
    (fetched : Fetched) × (coming.head ≡ Some fetched.head) × (coming.interims ≡ fetched.interims)
    × (coming.body ≡ fetched.body) × (coming.trailers ≡ fetched.trailers) × IsFetched parts fetched
