-- What a client that makes several requests makes of octets, by what `take` has answered.
use Rattle.h2_engines.proofs.Names
use Names.{◌≡◌, ◌≢◌, ℕ, true, false, [], List, ◌∷◌, ◌++◌, length, Option, Some, None, Ok, Err}
use Names.{refl, ap, ◌∙◌, append-nil, inl, inr, Contains, End, EndLog, EndTook, EndFailed, Handed}
use Names.{EndTaken, EndTakes, LentPart, LinkError, ConnFault, event_handed, error_with, later_in}
use Names.{EndAnswer, InterimHanded, HeadHanded, BodyHanded, TrailersHanded, Passed, ◌==◌}
use Names.{subst, arith, cases_Bool, eqb-true, if◌then◌else◌}
use Rattle.h2_spec_log.specs.Events.{ResetEvent, UnprocessedEvent}
use Rattle.h2_engines.specs.Fetches.{WasDropped}
use Rattle.h2_engines.specs.ServerSteps.{ErrsServing}
use Rattle.h2_engines.proofs.TakeMessages.{handed_after}
use Rattle.h2_fetch.specs.Kept.{KeepsAll}
use Rattle.h2_fetch.specs.Several.{AreDropped, OnStream, PartOn, all_on, as_on}
use Rattle.h2_fetch.specs.SeveralTakes.{HandsCame, IsAsCame, TakesCameOnce, TakesCameSo}
use Rattle.h2_fetch.specs.SeveralTakes.{says_nothing, stream_of_handed, without_empty}
use Rattle.h2_fetch.specs.declared.coming.CameNext.{CameNext}
use Rattle.h2_fetch.specs.declared.coming.CameNext.TheVariants as nexts
use Rattle.h2_fetch.specs.declared.part.ResponsePart.TheVariants as parts
use Rattle.h2_fetch.specs.declared.connection.Came.{Came}
use Rattle.h2_fetch.specs.declared.connection.Came.TheVariants.{Part, Dropped}
use Rattle.h2_fetch.proofs.KeptParts.{Queues, came_on}
use Rattle.h2_link.specs.declared.error.LinkError.TheVariants as errors

-- Nothing has come.
abbrev pub IsNothing : CameNext → Type 0
IsNothing (nexts.On id came) = ⊥
IsNothing next = Unit {0}

hands_none : (next : CameNext) → IsNothing next → HandsCame None next
hands_none (nexts.On id came) nothing = nothing
hands_none next nothing = tt

module _ (old new : End) (piece : List ℕ) (taken : EndTaken) where
  -- Nothing was handed out, with some octets left or none.
  pub came_nothing : (next : CameNext) → taken.event ≡ None → IsNothing next
      → (next ≡ nexts.Done → taken.used ≡ length piece) → EndTakes old piece (Ok taken) new
      → TakesCameOnce old new piece (Ok (record { used = taken.used; next = next }))
  unfolding TakesCameSo
  came_nothing next none nothing all takes values end represents =
      let (after, may, now) = takes values end represents in
      let took = rw none at may in (after, now, (None, took, hands_none next nothing, all))

  -- Something was, which has come on a stream or not;
  pub came_some : (event : LentPart) (next : CameNext) → taken.event ≡ Some event
      → next ≢ nexts.Done → HandsCame (Some (event_handed event)) next
      → EndTakes old piece (Ok taken) new
      → TakesCameOnce old new piece (Ok (record { used = taken.used; next = next }))
  unfolding TakesCameSo
  came_some event next some goes_on hands takes values end represents =
      let (after, may, now) = takes values end represents in
      let took = rw some at may in
      (after, now, (Some (event_handed event), took, hands, λ is. absurd (goes_on is)))

  -- or there was no memory for it,
  pub came_unkept : (event : LentPart) → taken.event ≡ Some event
      → EndTakes old piece (Ok taken) new → TakesCameOnce old new piece (Err errors.Memory)
  unfolding TakesCameSo ErrsServing
  came_unkept event some takes values end represents =
      let (after, may, now) = takes values end represents in
      let took = rw some at may in
      (after, now, (EndTook taken.used (Some (event_handed event)), took, refl))

-- or the connection has failed.
pub came_fault : (old new : End) (piece : List ℕ) (fault : ConnFault) {error : LinkError}
    → error ≡ error_with fault.code → EndTakes old piece (Err fault) new
    → TakesCameOnce old new piece (Err error)
unfolding TakesCameSo ErrsServing
came_fault old new piece fault is takes values end represents =
    let (after, may, now) = takes values end represents in
    (after, now, (EndFailed fault.code, may, is))

-- What was handed out adds nothing to a stream where nothing has come,
off_stream : (i : ℕ) (handed : Handed) → stream_of_handed handed ≡ None → as_on i handed ≡ []
off_stream i (InterimHanded id list) none = refl
off_stream i (HeadHanded id list end) none = absurd (cc)
off_stream i (BodyHanded id octets end) none = absurd (cc)
off_stream i (TrailersHanded id list) none = absurd (cc)
off_stream i (Passed (ResetEvent id code ours)) none = absurd (cc)
off_stream i (Passed (UnprocessedEvent id)) none = absurd (cc)
off_stream i (Passed event) none = refl

-- and an empty part of a body that ends nothing adds nothing to any;
empty_on : (i id : ℕ) (octets : List ℕ) → (length octets == 0) ≡ true
    → as_on i (BodyHanded id octets false) ≡ []
empty_on i id [] none = refl
empty_on i id (octet ∷ octets) none =
    absurd (omega (arith, eqb-true (length (octet ∷ octets)) 0 none))

-- one with octets adds itself to its stream,
body_on : (i id : ℕ) (octets : List ℕ) → (length octets == 0) ≡ false
    → as_on i (BodyHanded id octets false)
    ≡ (if id == i then PartOn (BodyHanded id octets false) ∷ [] else [])
body_on i id [] some = absurd (cc)
body_on i id (octet ∷ octets) some = refl

-- and so does the last one, with octets or without.
last_on : (i id : ℕ) (octets : List ℕ)
    → as_on i (BodyHanded id octets true)
    ≡ (if id == i then PartOn (BodyHanded id octets true) ∷ [] else [])
last_on i id [] = refl
last_on i id (octet ∷ octets) = refl

-- What was handed out is what has come on a stream, or adds nothing to any.
abbrev pub AddsCame : Option Handed → CameNext → Type 0
AddsCame None (nexts.On id came) = ⊥
AddsCame None next = Unit {0}
AddsCame (Some handed) (nexts.On id came) = IsAsCame id came handed
AddsCame (Some handed) next = (i : ℕ) → as_on i handed ≡ []

-- What comes adds what was handed out, and nothing does where nothing comes.
adds_same : (handed : Option Handed) (next : CameNext)
    → HandsCame handed next → AddsCame handed next
adds_same None (nexts.On id came) hands = absurd hands
adds_same None nexts.Again hands = tt
adds_same None nexts.Done hands = tt
adds_same (Some handed) (nexts.On id came) hands = hands
adds_same (Some handed) nexts.Again hands = λ i. off_stream i handed hands
adds_same (Some handed) nexts.Done hands = λ i. off_stream i handed hands

-- What says nothing adds nothing:
adds_nothing : (handed : Option Handed) (next : CameNext)
    → says_nothing next ≡ true → HandsCame handed next → AddsCame handed nexts.Again
adds_nothing None next says hands = tt
adds_nothing (Some handed) (nexts.On id (Part (parts.Interim list))) says hands =
    λ i. rw hands refl
adds_nothing (Some handed) (nexts.On id (Part (parts.Body octets false))) says hands =
    λ i. rw hands (empty_on i id octets.items says)
adds_nothing (Some handed) (nexts.On id (Part (parts.Body octets true))) says hands =
    absurd (cc)
adds_nothing (Some handed) (nexts.On id (Part (parts.Head list end))) says hands = absurd (cc)
adds_nothing (Some handed) (nexts.On id (Part (parts.Trailers list))) says hands = absurd (cc)
adds_nothing (Some handed) (nexts.On id (Dropped code)) says hands = absurd (cc)
adds_nothing (Some handed) nexts.Again says hands = absurd (cc)
adds_nothing (Some handed) nexts.Done says hands = absurd (cc)

-- it is dropped.
pub adds_came : (handed : Option Handed) (next : CameNext)
    → HandsCame handed next → AddsCame handed (without_empty next)
adds_came handed next hands = elim (cases_Bool (says_nothing next)) [
  | inl says ↦ rw says (adds_nothing handed next says hands)
  | inr some ↦ rw some (adds_same handed next hands)
]

-- Where all octets are used once that is dropped, they were before.
pub still_done : (next : CameNext) → without_empty next ≡ nexts.Done → next ≡ nexts.Done
still_done next is = elim (cases_Bool (says_nothing next)) [
  | inl says ↦ let other : nexts.Again ≡ nexts.Done = rw says at is in absurd (cc)
  | inr some ↦ rw some at is
]

-- What has come on a stream says something.
abbrev pub SaysSome : ℕ → Came → Type 0
SaysSome id came = says_nothing (nexts.On id came) ≡ false

-- So does what isn't dropped.
pub says_some : (next : CameNext) (stream : ℕ) (came : Came)
    → without_empty next ≡ nexts.On stream came → SaysSome stream came
says_some next stream came is = elim (cases_Bool (says_nothing next)) [
  | inl says ↦ let other : nexts.Again ≡ nexts.On stream came = rw says at is in absurd (cc)
  | inr some ↦
      let same : next ≡ nexts.On stream came = rw some at is in
      subst (λ (one : CameNext). says_nothing one ≡ false) same some
]

-- What was handed out last adds to its stream what has come there,
pub handed_came : (i id : ℕ) (came : Came) (handed : Handed) (before : List Handed)
    → SaysSome id came → IsAsCame id came handed
    → all_on i (handed ∷ before) ≡ all_on i before ++ came_on id came i
unfolding all_on
handed_came i id (Part (parts.Interim list)) handed before final is = absurd (cc)
handed_came i id (Part (parts.Head list end)) handed before final is = rw is refl
handed_came i id (Part (parts.Body octets false)) handed before final is =
    rw is (ap (λ (last : List OnStream). all_on i before ++ last)
    (body_on i id octets.items final))
handed_came i id (Part (parts.Body octets true)) handed before final is =
    rw is (ap (λ (last : List OnStream). all_on i before ++ last) (last_on i id octets.items))
handed_came i id (Part (parts.Trailers list)) handed before final is = rw is refl
handed_came i id (Dropped code) handed before final (inl reset) = rw reset.1 refl
handed_came i id (Dropped code) handed before final (inr left) = rw (left.1, left.0) refl

-- and nothing to one where nothing has.
handed_off : (i : ℕ) (handed : Handed) (before : List Handed) → as_on i handed ≡ []
    → all_on i (handed ∷ before) ≡ all_on i before
unfolding all_on
handed_off i handed before off =
    ap (λ (last : List OnStream). all_on i before ++ last) off
    ∙ append-nil (all_on i before)

pub nothing_came : (next : CameNext) (count : ℕ) (handed : Option Handed)
    (before : List Handed) {after : List Handed} → IsNothing next → AddsCame handed next
    → after ≡ handed_after (EndTook count handed) before → (i : ℕ)
    → all_on i after ≡ all_on i before
nothing_came next count None before nothing hands same i = ap (all_on i) same
nothing_came (nexts.On id came) count (Some handed) before nothing hands same i =
    absurd nothing
nothing_came nexts.Again count (Some handed) before nothing hands same i =
    ap (all_on i) same ∙ handed_off i handed before (hands i)
nothing_came nexts.Done count (Some handed) before nothing hands same i =
    ap (all_on i) same ∙ handed_off i handed before (hands i)

-- Where something has come on a stream, it was handed out.
pub something_came : (id : ℕ) (came : Came) {next : CameNext} (count : ℕ)
    (handed : Option Handed) (before : List Handed) {after : List Handed}
    → next ≡ nexts.On id came → AddsCame handed next
    → after ≡ handed_after (EndTook count handed) before
    → (one : Handed) × IsAsCame id came one × (after ≡ one ∷ before)
something_came id came count None before is hands same = absurd (rw is at hands)
something_came id came count (Some one) before is hands same = (one, rw is at hands, same)

-- What was handed out stays so,
pub stays_handed : (answer : EndAnswer) (before : List Handed) {after : List Handed}
    → after ≡ handed_after answer before → (one : Handed) → Contains before one
    → Contains after one
stays_handed (EndTook count (Some last)) before same one was =
    rw same (later_in last before one was)
stays_handed (EndTook count None) before same one was = rw same was
stays_handed (EndFailed code) before same one was = rw same was

-- so that a stream that was dropped stays dropped.
pub stays_dropped : (before after : EndLog)
    → ((one : Handed) → Contains before.handed one → Contains after.handed one)
    → (id code : ℕ) → WasDropped before id code → WasDropped after id code
stays_dropped before after stays id code (inl (ours, was)) = inl (ours, stays _ was)
stays_dropped before after stays id code (inr (is, was)) = inr (is, stays _ was)

pub stay_dropped : (before after : EndLog) (old new : Queues) → KeepsAll old new
    → ((one : Handed) → Contains before.handed one → Contains after.handed one)
    → AreDropped before old → AreDropped after new
stay_dropped before after old new same stays dropped id code one =
    stays_dropped before after stays id code (dropped id code (rw (same id) at one))

-- What has come as dropped was.
pub dropped_as : (end : EndLog) (id code : ℕ) (handed : Handed) → IsAsCame id (Dropped code) handed
    → Contains end.handed handed → WasDropped end id code
dropped_as end id code handed (inl (ours, is)) one = inl (ours, rw is at one)
dropped_as end id code handed (inr (seven, is)) one = inr (seven, rw is at one)
