-- What a server's end hands out of a request, and where.
use Rattle.h2_engines.proofs.Names
use Names.{◌≡◌, ℕ, Bool, true, false, List, [], ◌∷◌, ◌++◌, refl, sym, ap, ◌∙◌, subst, append-nil}
use Names.{ne_eqb, eq-eqb, Contains, Field, Server, Event, ResetEvent, Reads, Place, Part}
use Names.{FieldsPart, OctetsPart, IsReadable, first_in, later_in, EndLog, Handed, HeadHanded}
use Names.{BodyHanded, TrailersHanded, Passed, ends_message, said_for, WasReportedReset}
use Names.{handed_as, handed_at, part_on, parts_on, ◌≢◌, if◌then◌else◌, ◌==◌}
use Rattle.h2_message.specs.declared.reading.Reads.TheVariants.{Requests}
use Rattle.h2_engines.proofs.NextParts.{place_first, place_later, request_begun, no_octets_first}
use Rattle.h2_engines.proofs.NextParts.{goes_with}
use Rattle.h2_engines.proofs.SameRequests.{SameOn}
use Rattle.h2_engines.proofs.TakeMessages.{KeepsCalls, HandsAsRead}
use Rattle.h2_ends.proofs.RequestHeads.{server_reads as reads_requests}
use Rattle.h2_engines.proofs.TakeMessages as read

-- What a server's end may hand out: the head of a request where nothing of it has come; octets and
-- trailers after that, where it hasn't ended; or what is no part of a request.
pub data HandsOut (end : EndLog) : Handed → Type 0 where
  hands_head : (id : ℕ) (list : List Field) (last : Bool) → parts_on id end.handed ≡ []
      → HandsOut end (HeadHanded id list last)
  hands_body : (id : ℕ) (octets : List ℕ) (last : Bool) → parts_on id end.handed ≢ []
      → ends_message (parts_on id end.handed) ≡ false → HandsOut end (BodyHanded id octets last)
  hands_trailers : (id : ℕ) (list : List Field) → parts_on id end.handed ≢ []
      → ends_message (parts_on id end.handed) ≡ false → HandsOut end (TrailersHanded id list)
  hands_event : (event : Event) → HandsOut end (Passed event)

-- How a part of a request is handed out.
as_head : (id : ℕ) (list : List Field) (last : Bool)
    → handed_as Requests [] id (FieldsPart list, last) ≡ HeadHanded id list last
unfolding handed_as handed_at
as_head id list last =
    ap (λ (place : Place). handed_at place id list last) (place_first list)

as_trailers : (first : Part × Bool) (parts : List (Part × Bool)) (id : ℕ) (list : List Field)
    (last : Bool) → IsReadable Requests ((first ∷ parts) ++ (FieldsPart list, last) ∷ [])
    → handed_as Requests (first ∷ parts) id (FieldsPart list, last) ≡ TrailersHanded id list
unfolding handed_as handed_at
as_trailers first parts id list last readable =
    ap (λ (place : Place). handed_at place id list last)
    (place_later (first ∷ parts) list last (request_begun first parts) readable)

as_body : (reads : Reads) (parts : List (Part × Bool)) (id : ℕ) (octets : List ℕ) (last : Bool)
    → BodyHanded id octets last ≡ handed_as reads parts id (OctetsPart octets, last)
unfolding handed_as
as_body reads parts id octets last = refl

some_parts : {parts : List (Part × Bool)} (first : Part × Bool) (rest : List (Part × Bool))
    → parts ≡ first ∷ rest → parts ≢ []
some_parts first rest are none = absurd (cc)

hands_part : (end : EndLog) (id : ℕ) (parts : List (Part × Bool)) (part : Part × Bool)
    → parts_on id end.handed ≡ parts → IsReadable Requests (parts ++ part ∷ [])
    → HandsOut end (handed_as Requests parts id part)
hands_part end id [] (FieldsPart list, last) are readable =
    rw ((as_head id list last)) (hands_head id list last are)
hands_part end id [] (OctetsPart octets, last) are readable = absurd (no_octets_first _ _ readable)
hands_part end id (first ∷ parts) (FieldsPart list, last) are readable =
    rw ((as_trailers first parts id list last readable)) (hands_trailers id list
    (some_parts first parts are) (ap ends_message are ∙ goes_with _ _ readable))
hands_part end id (first ∷ parts) (OctetsPart octets, last) are readable =
    subst (HandsOut end) (as_body Requests (first ∷ parts) id octets last) (hands_body id octets
    last (some_parts first parts are) (ap ends_message are ∙ goes_with _ _ readable))

hands_as_read : (end : EndLog) (id : ℕ) (part : Part × Bool) {reads : Reads} → reads ≡ Requests
    → IsReadable reads (parts_on id end.handed ++ part ∷ [])
    → HandsOut end (handed_as reads (parts_on id end.handed) id part)
hands_as_read end id part same readable =
    rw same (hands_part end id (parts_on id end.handed) part refl (subst
    (λ (one : Reads). IsReadable one (parts_on id end.handed ++ part ∷ [])) same readable))

-- So it is with what a call of `take` hands out.
pub server_hands : (end : EndLog) {handed : Handed} → end.log.role ≡ Server
    → HandsAsRead end handed → HandsOut end handed
server_hands end role (read.hands_event event) = hands_event event
server_hands end role (read.hands_part id part readable) =
    hands_as_read end id part (reads_requests end id role) readable

-- One part of a request was handed out on a stream, and nothing on others.
pub record Hands (end after : EndLog) (id : ℕ) (part : Part × Bool) : Type 0 where
  pub parts : parts_on id after.handed ≡ parts_on id end.handed ++ part ∷ []
  pub message : said_for id after.accepted ≡ said_for id end.accepted
  pub resets : WasReportedReset end id → WasReportedReset after id
  pub calls : KeepsCalls end.log after.log
  pub others : (i : ℕ) → i ≢ id → SameOn end after i

-- The end has handed out just this.
pub record HandedOne (end after : EndLog) (one : Handed) : Type 0 where
  pub handed : after.handed ≡ one ∷ end.handed
  pub accepted : after.accepted ≡ end.accepted
  pub calls : KeepsCalls end.log after.log

parts_with : {end after : EndLog} {one : Handed} (i : ℕ) {more : List (Part × Bool)}
    → HandedOne end after one → part_on i one ≡ more
    → parts_on i after.handed ≡ parts_on i end.handed ++ more
unfolding parts_on
parts_with {end} i hands is =
    ap (parts_on i) hands.handed ∙ ap
    (λ (part : List (Part × Bool)). parts_on i end.handed ++ part) is

resets_with : {end after : EndLog} {one : Handed} (i : ℕ) → HandedOne end after one
    → WasReportedReset end i → WasReportedReset after i
resets_with {end} {one} i hands reset = (
  reset.0,
  reset.1,
  subst (λ (all : List Handed). Contains all (Passed (ResetEvent i reset.0 reset.1)))
      (sym hands.handed) (later_in one end.handed _ reset.2),
)

pub same_besides : {end after : EndLog} {one : Handed} (i : ℕ) → HandedOne end after one
    → part_on i one ≡ [] → SameOn end after i
same_besides {end} i hands none =
    record {
      parts = parts_with i hands none ∙ append-nil (parts_on i end.handed);
      message = ap (said_for i) hands.accepted;
      resets = resets_with i hands;
      calls = hands.calls;
    }

hands_one : {end after : EndLog} {one : Handed} (id : ℕ) (part : Part × Bool)
    → HandedOne end after one → part_on id one ≡ part ∷ []
    → ((i : ℕ) → i ≢ id → part_on i one ≡ []) → Hands end after id part
hands_one id part hands here there =
    record {
      parts = parts_with id hands here;
      message = ap (said_for id) hands.accepted;
      resets = resets_with id hands;
      calls = hands.calls;
      others = λ i other. same_besides i hands (there i other);
    }

-- A stream is itself, and no other one.
here_is : (id : ℕ) (part : Part × Bool)
    → (if id == id then part ∷ [] else []) ≡ part ∷ []
here_is id part = ap (λ (b : Bool). if b then part ∷ [] else []) (eq-eqb id id refl)

there_is : (id i : ℕ) (part : Part × Bool) → i ≢ id
    → (if id == i then part ∷ [] else []) ≡ []
there_is id i part other =
    ap (λ (b : Bool). if b then part ∷ [] else []) (ne_eqb id i (λ same. other (sym same)))

-- So it is with a head, octets and trailers.
pub head_hands : {end after : EndLog} {id : ℕ} {list : List Field} {last : Bool}
    → HandedOne end after (HeadHanded id list last) → Hands end after id (FieldsPart list, last)
unfolding part_on
head_hands {id} {list} {last} hands =
    hands_one _ _ hands (here_is _ _) (λ i other. there_is id i (FieldsPart list, last) other)

pub body_hands : {end after : EndLog} {id : ℕ} {octets : List ℕ} {last : Bool}
    → HandedOne end after (BodyHanded id octets last)
    → Hands end after id (OctetsPart octets, last)
unfolding part_on
body_hands {id} {octets} {last} hands =
    hands_one _ _ hands (here_is _ _) (λ i other. there_is id i (OctetsPart octets, last) other)

pub trailers_hands : {end after : EndLog} {id : ℕ} {list : List Field}
    → HandedOne end after (TrailersHanded id list) → Hands end after id (FieldsPart list, true)
unfolding part_on
trailers_hands {id} {list} hands =
    hands_one _ _ hands (here_is _ _) (λ i other. there_is id i (FieldsPart list, true) other)

-- An event is no part of a request.
pub event_besides : {end after : EndLog} {event : Event} (i : ℕ)
    → HandedOne end after (Passed event) → SameOn end after i
unfolding part_on
event_besides i hands = same_besides i hands refl

-- A reset that was handed out.
pub reset_now : {end after : EndLog} (id code : ℕ) (ours : Bool)
    → HandedOne end after (Passed (ResetEvent id code ours)) → WasReportedReset after id
reset_now {end} id code ours hands = (
  code,
  ours,
  subst (λ (all : List Handed). Contains all (Passed (ResetEvent id code ours))) (sym hands.handed)
      (first_in (Passed (ResetEvent id code ours)) end.handed),
)
