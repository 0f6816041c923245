-- What a client's end hands out of its response, and what is kept of that.
use Rattle.h2_engines.proofs.Names
use Names.{◌≡◌, ℕ, Bool, true, false, List, [], ◌∷◌, ◌++◌, length, Some, None, Ok, Err, refl, sym}
use Names.{ap, ◌∙◌, subst, inl, inr, Field, Client, ResetEvent, is_server, ConnFault, Reads, Place}
use Names.{Part, FieldsPart, OctetsPart, IsReadable, place_after, End, LentPart, EndTaken, EndLog}
use Names.{EndTook, EndFailed, Handed, Passed, event_handed, EndTakes, LinkError, said_for}
use Names.{part_on, Coming, Next, NotesPart, HasCome, error_with, handed_as, handed_at, parts_on}
use Names.{reads_on, asked_head, if◌then◌else◌, ClientHears, FetchedSo, KeepsResponse, ErrsFetching}
use Rattle.h2_message.specs.declared.reading.Reads.TheVariants.{Responses, Requests}
use Rattle.std.proofs.Common.{◌⊎◌}
use Rattle.h2_engines.proofs.FetcherParts.{MayHand, KeepsSoFar, notes_on}
use Rattle.h2_engines.proofs.FetcherPlaces.{SaysPlace, place_says, octets_say}
use Rattle.h2_engines.proofs.TakeMessages.{HandsAsRead, hands_event, hands_part, taken_says}
use Rattle.h2_message.specs.declared.reading.Place.TheVariants as places
use Rattle.h2_link.specs.declared.error.LinkError.TheVariants as errors
use Rattle.h2_engines.specs.declared.request.Next.TheVariants as goes

-- A part of the response is handed out as it was read.
hands_at : (coming : Coming) (id i : ℕ) (list : List Field) (last : Bool) (place : Place)
    → (i ≡ id → SaysPlace coming list place) → MayHand coming id (handed_at place i list last)
unfolding handed_at
hands_at coming id i list last places.Interim say = say
hands_at coming id i list last places.Head say = say
hands_at coming id i list last places.Trailers say = say

hands_so : {to_head : Bool} (coming : Coming) (id i : ℕ) (parts : List (Part × Bool))
    (part : Part × Bool) → (i ≡ id → HasCome coming parts)
    → IsReadable (Responses to_head) (parts ++ part ∷ [])
    → MayHand coming id (handed_as (Responses to_head) parts i part)
unfolding handed_as
hands_so {to_head} coming id i parts (FieldsPart list, last) come readable =
    hands_at coming id i list last (place_after (Responses to_head) parts list)
    (λ same. place_says list last (come same) readable)
hands_so coming id i parts (OctetsPart octets, last) come readable =
    λ same. octets_say octets last (come same) readable

-- A client reads responses.
reads_responses : (end : EndLog) (i : ℕ) → end.log.role ≡ Client
    → reads_on end i ≡ Responses (asked_head (said_for i end.accepted))
unfolding reads_on
reads_responses end i role =
    ap (λ (b : Bool). if b then Requests
    else Responses (asked_head (said_for i end.accepted))) (ap is_server role)

hands_as_read : {coming : Coming} (end : EndLog) (id i : ℕ) (part : Part × Bool) (to_head : Bool)
    {reads : Reads} → reads ≡ Responses to_head → HasCome coming (parts_on id end.handed)
    → IsReadable reads (parts_on i end.handed ++ part ∷ [])
    → MayHand coming id (handed_as reads (parts_on i end.handed) i part)
hands_as_read {coming} end id i part to_head same come readable =
    rw same (hands_so coming id i (parts_on i end.handed) part
    (λ is. subst (λ (one : ℕ). HasCome coming (parts_on one end.handed)) (sym is) come) (subst
    (λ (one : Reads). IsReadable one (parts_on i end.handed ++ part ∷ [])) same readable))

-- So it is with what a call of `take` hands out.
hands_by : {coming : Coming} (end : EndLog) (id : ℕ) {handed : Handed} → end.log.role ≡ Client
    → HasCome coming (parts_on id end.handed) → HandsAsRead end handed → MayHand coming id handed
hands_by end id role come (hands_event event) = tt
hands_by end id role come (hands_part i part readable) =
    hands_as_read end id i part (asked_head (said_for i end.accepted))
    (reads_responses end i role) come readable

-- What was handed out is on the stream after what was.
handed_on : (id : ℕ) (handed : List Handed) {now : List Handed} (one : Handed) → now ≡ one ∷ handed
    → parts_on id now ≡ parts_on id handed ++ part_on id one
unfolding parts_on
handed_on id handed one is = ap (parts_on id) is

-- So much is kept of the response, by how it goes on.
keeps_by : (end : EndLog) (id : ℕ) (coming : Coming) {parts : List (Part × Bool)} (whole : Bool)
    {next : Next} → parts_on id end.handed ≡ parts → KeepsSoFar coming parts whole
    → next ≡ (if whole then goes.Whole else goes.Again) → KeepsResponse end id coming next
unfolding KeepsResponse
keeps_by end id coming {parts} true are keeps is = rw is (rw are keeps)
keeps_by end id coming {parts} false are keeps is = rw is (rw are keeps)

-- Nothing was handed out: the fetch goes on, or is done with the piece.
keeps_none : (end after : EndLog) (id : ℕ) {coming : Coming} (next : Next)
    → after.handed ≡ end.handed → (next ≡ goes.Again) ⊎ (next ≡ goes.Done)
    → HasCome coming (parts_on id end.handed) → KeepsResponse after id coming next
unfolding KeepsResponse
keeps_none end after id {coming} next same (inl again) come =
    rw again
    (subst (λ (handed : List Handed). HasCome coming (parts_on id handed)) (sym same) come)
keeps_none end after id {coming} next same (inr done) come = rw done (rw same come)

pub heard_nothing : (old new : End) (id : ℕ) (coming : Coming) (piece : List ℕ)
    (taken : EndTaken) (next : Next) → taken.event ≡ None
    → (next ≡ goes.Again) ⊎ (next ≡ goes.Done) → (next ≡ goes.Done → taken.used ≡ length piece)
    → EndTakes old piece (Ok taken) new
    → ClientHears old new id coming coming piece
    (Ok (record { used = taken.used; next = next }))
unfolding FetchedSo
heard_nothing old new id coming piece taken next none other all takes values end represents role
    come =
    let (after, may, now) = takes values end represents in
    let took = rw none at may in
    let says = taken_says took in
    (after, now, (None, took, keeps_none end after id next says.handed other come, all))

not_done : (whole : Bool) {next : Next} {A : Type 0}
    → next ≡ (if whole then goes.Whole else goes.Again) → next ≡ goes.Done → A
not_done true is done = cc
not_done false is done = cc

module _ (old new : End) (id : ℕ) (before coming : Coming) (piece : List ℕ) (taken : EndTaken) where
  -- A part was noted: the fetch goes on, or the response is whole.
  pub heard_part : (event : LentPart) (whole : Bool) (next : Next)
      → taken.event ≡ Some event → next ≡ (if whole then goes.Whole else goes.Again)
      → NotesPart id before coming (event_handed event) whole → EndTakes old piece (Ok taken) new
      → ClientHears old new id before coming piece (Ok (record { used = taken.used; next = next }))
  unfolding FetchedSo
  heard_part event whole next some goes_on notes takes values end represents role come =
      let (after, may, now) = takes values end represents in
      let handed = event_handed event in
      let took = rw some at may in
      let says = taken_says took in
      let hands = hands_by end id role come says.says.3 in
      let parts = parts_on id end.handed in
      let keeps = notes_on come hands notes in (
        after,
        now,
        (
          Some handed,
          took,
          keeps_by after id coming whole (handed_on id end.handed handed says.handed) keeps goes_on,
          λ done. not_done whole goes_on done,
        ),
      )

  -- The fetch ends, since the stream is over, since there is no memory, or with the connection.
  pub heard_error : (event : LentPart) (error : LinkError) → taken.event ≡ Some event
      → ErrsFetching (EndTook taken.used (Some (event_handed event))) id error
      → EndTakes old piece (Ok taken) new → ClientHears old new id before coming piece (Err error)
  unfolding FetchedSo
  heard_error event error some errs takes values end represents role come =
      let (after, may, now) = takes values end represents in
      let took = rw some at may in
      (after, now, (EndTook taken.used (Some (event_handed event)), took, errs))

pub heard_fault : (old new : End) (id : ℕ) (before coming : Coming) (piece : List ℕ)
    (fault : ConnFault) {error : LinkError} → error ≡ error_with fault.code
    → EndTakes old piece (Err fault) new → ClientHears old new id before coming piece (Err error)
unfolding FetchedSo ErrsFetching
heard_fault old new id before coming piece fault is takes values end represents role come =
    let (after, may, now) = takes values end represents in
    (after, now, (EndFailed fault.code, may, is))

-- Why the stream is over, where it was reset.
pub errs_reset : (count : ℕ) {id stream : ℕ} (code : ℕ) (ours : Bool) {handed : Handed}
    → handed ≡ Passed (ResetEvent stream code ours) → stream ≡ id
    → ErrsFetching (EndTook count (Some handed)) id (errors.Reset code)
unfolding ErrsFetching
errs_reset count code ours is same =
    inr (inl (code, ours, is ∙ ap (λ (i : ℕ). Passed (ResetEvent i code ours)) same, refl))
