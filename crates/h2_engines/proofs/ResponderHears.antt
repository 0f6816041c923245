-- What a call of `take` has made of a piece, and of what is kept of requests.
use Rattle.h2_engines.proofs.Names
use Names.{◌≡◌, ℕ, Bool, true, false, List, length, Option, Some, None, Ok, Err, refl, inl, inr}
use Names.{ResetEvent, ConnFault, End, LentPart, EndTaken, Handed, HeadHanded, BodyHanded}
use Names.{TrailersHanded, Passed, event_handed, EndTakes, Next, Request, error_with, NotesHanded}
use Names.{NotesTaken, AddsOctets, EndsKept, EndsRequest, ◌≢◌, Requests}
use Rattle.h2_engines.specs.ServerSteps.{ServerHears, HeardSo, ErrsServing}
use Rattle.std.proofs.Common.{◌⊎◌}
use Rattle.h2_link.specs.declared.error.LinkError.TheVariants as errors
use Rattle.h2_engines.specs.declared.request.Next.TheVariants as nexts

-- Where something was handed out, there may be more.
ends_on : (old new : Requests) (id : ℕ) (end : Bool) (request : Request) (next : Next)
    → EndsRequest old new id end request next → next ≢ nexts.Done
unfolding EndsRequest
ends_on old new id true request next so is = let same = so.0 in cc
ends_on old new id false request next so is = let same = so.0 in cc

adds_on : (old new : Requests) (id : ℕ) (octets : List ℕ) (end : Bool) (request : Option Request)
    (next : Next) → AddsOctets old new id octets end request next → next ≢ nexts.Done
unfolding AddsOctets
adds_on old new id octets end None next so is = let same = so.0 in cc
adds_on old new id octets end (Some request) next (inl so) is = let same = so.1 in cc
adds_on old new id octets end (Some request) next (inr so) is = ends_on _ _ _ _ so.1.0 _ so.1.2 is

kept_on : (old new : Requests) (id : ℕ) (request : Option Request) (next : Next)
    → EndsKept old new id request next → next ≢ nexts.Done
unfolding EndsKept
kept_on old new id None next so is = let same = so.0 in cc
kept_on old new id (Some request) next so is = ends_on old new id true request next so is

notes_on : (old new : Requests) (handed : Handed) (next : Next)
    → NotesHanded old new handed next → next ≢ nexts.Done
unfolding NotesHanded
notes_on old new (HeadHanded id list end) next so is = ends_on old new id end so.0 next so.2 is
notes_on old new (BodyHanded id octets end) next so is = adds_on _ _ _ _ _ _ next so is
notes_on old new (TrailersHanded id list) next so is = kept_on _ _ _ _ next so is
notes_on old new (Passed (ResetEvent id code ours)) next so is = let same = so.0 in cc
notes_on old new handed next so is = let same = so.0 in cc

-- Nothing was handed out.
pub hears_nothing : (old new : End) (requests : Requests) (piece : List ℕ) (taken : EndTaken)
    (next : Next) → taken.event ≡ None → (next ≡ nexts.Again) ⊎ (next ≡ nexts.Done)
    → (next ≡ nexts.Done → taken.used ≡ length piece) → EndTakes old piece (Ok taken) new
    → ServerHears old new requests requests piece (Ok (record { used = taken.used; next = next }))
unfolding HeardSo NotesTaken
hears_nothing old new requests piece taken next none which done takes values end represents =
    let (after, may, now) = takes values end represents in (
      after,
      now,
      (
        None,
        rw none at may,
        (which, refl),
        done,
      ),
    )

-- Something was, and is kept.
pub hears_event : (old new : End) (requests kept : Requests) (piece : List ℕ) (taken : EndTaken)
    (event : LentPart) (next : Next) → taken.event ≡ Some event
    → NotesHanded requests kept (event_handed event) next → EndTakes old piece (Ok taken) new
    → ServerHears old new requests kept piece (Ok (record { used = taken.used; next = next }))
unfolding HeardSo NotesTaken
hears_event old new requests kept piece taken event next some notes takes values end represents =
    let (after, may, now) = takes values end represents in (
      after,
      now,
      (
        Some (event_handed event),
        rw some at may,
        notes,
        λ is. absurd (notes_on requests kept (event_handed event) next notes is),
      ),
    )

-- Or there was no memory to keep it.
pub hears_lost : (old new : End) (requests kept : Requests) (piece : List ℕ) (taken : EndTaken)
    → EndTakes old piece (Ok taken) new
    → ServerHears old new requests kept piece (Err errors.Memory)
unfolding HeardSo ErrsServing
hears_lost old new requests kept piece taken takes values end represents =
    let (after, may, now) = takes values end represents in (after, now, (_, may, refl))

-- Or the connection has failed.
pub hears_fault : (old new : End) (requests kept : Requests) (piece : List ℕ) (fault : ConnFault)
    → EndTakes old piece (Err fault) new
    → ServerHears old new requests kept piece (Err (error_with fault.code))
unfolding HeardSo ErrsServing
hears_fault old new requests kept piece fault takes values end represents =
    let (after, may, now) = takes values end represents in (after, now, (_, may, refl))
