-- What a client that is driven makes of octets.
use Rattle.h2_engines.proofs.Names
use Names.{◌≡◌, ℕ, Bool, true, false, List, ◌∷◌, Some, None, Result, Ok, Err, refl, sym, ap, ◌∙◌}
use Names.{subst, inl, inr, append-nil, Contains, Event, SentMessage, first_in, End, EndLog, Handed}
use Names.{EndAnswer, EndTook, EndFailed, Passed, EndMayTake, LinkError, ends_message, said_for}
use Names.{Coming, Heard, Next, part_on, parts_on, ◌≢◌, EndsUnfinished, refused_stream, ClientHears}
use Names.{FetchedSo, ErrsFetching, KeepsResponse, Fetching, MachineState, HearsNoMore, gives_up}
use Names.{Hears, IsDue, Responds, Keeps, at_once}
use Rattle.h2_engines.specs.Machines.{fails}
use Rattle.h2_engines.specs.ClientHistories.{takes}
use Rattle.h2_engines.proofs.LinkInvariants.{fetching_role}
use Rattle.h2_engines.proofs.FetchLinkParts.{come_not_whole}
use Rattle.h2_engines.proofs.MachineHears.{hears_on, hears_last}
use Rattle.h2_engines.proofs.MachineLaws.{unfinished}
use Rattle.h2_engines.proofs.ServeLinkTakes.{SaysUsed}
use Rattle.h2_engines.proofs.TakeMessages.{taken_says, kept_failed}
use Rattle.h2_engines.specs.declared.request.Next.TheVariants as nexts

-- a client, by its parts
abbrev pub client_with : End → ℕ → Coming → Bool → MachineState
client_with end id coming whole = record { end = end; kept = Fetching id coming whole }

-- What was handed out last is among what was.
handed_last : (one : Handed) (handed : List Handed) {all : List Handed} → all ≡ one ∷ handed
    → Contains all one
handed_last one handed same = rw same (first_in one handed)

-- What is no part of a message changes none.
passed_parts : (id : ℕ) (event : Event) (handed : List Handed) {all : List Handed}
    → all ≡ Passed event ∷ handed → parts_on id all ≡ parts_on id handed
unfolding parts_on part_on
passed_parts id event handed same = ap (parts_on id) same ∙ append-nil (parts_on id handed)

-- What is kept of the response, by what is to be done.
keeps_response : (message : SentMessage) (id : ℕ) (coming : Coming) (whole : Bool)
    (after : EndLog) (next : Next) → said_for id after.accepted ≡ Some (at_once message)
    → KeepsResponse after id coming next → (next ≡ nexts.Whole → whole ≡ true)
    → (next ≢ nexts.Whole → whole ≡ false)
    → Keeps message (Fetching id coming whole) after next
unfolding KeepsResponse Keeps
keeps_response message id coming whole after nexts.Whole accepted keeps said unless =
    (accepted, keeps, said refl)
keeps_response message id coming whole after nexts.Again accepted keeps said unless =
    (accepted, keeps, unless (λ same. cc))
keeps_response message id coming whole after nexts.Done accepted keeps said unless =
    (accepted, keeps, unless (λ same. cc))
keeps_response message id coming whole after next accepted keeps said unless = absurd keeps

-- A client hears of a piece,
pub client_hears : (old new : End) (id : ℕ) (coming now_come : Coming) (was whole : Bool)
    (piece : List ℕ) (heard : Heard) → (heard.next ≡ nexts.Whole → whole ≡ true)
    → (heard.next ≢ nexts.Whole → whole ≡ was)
    → ClientHears old new id coming now_come piece (Ok heard)
    → Hears (client_with old id coming was) (client_with new id now_come whole) piece (Ok heard)
unfolding FetchedSo Keeps
client_hears old new id coming now_come was whole piece heard said unless hears course now end is =
    let now_is = hears course.values end is.represents (fetching_role is.happened) is.keeps.1 in
    let says = now_is.2 in
    let taken = taken_says says.1 in (
      now_is.0,
      hears_on (client_with new id now_come whole) heard says.0 is says.1 now_is.1
          (takes is.happened piece _ says.1) (keeps_response course.message id now_come whole
          now_is.0 heard.next (ap (said_for id) taken.accepted ∙ is.keeps.0) says.2 said
          (λ other. unless other ∙ is.keeps.2)) says.3,
    )

-- or can't hear on.
hears_why : (message : SentMessage) (id : ℕ) (coming : Coming) (whole : Bool) {end : EndLog}
    {piece : List ℕ} (answer : EndAnswer) {after : EndLog} (error : LinkError) (octets : List ℕ)
    → EndMayTake end piece answer after → ErrsFetching answer id error
    → SaysUsed answer octets after.log → said_for id after.accepted ≡ Some (at_once message)
    → ends_message (parts_on id end.handed) ≡ false
    → HearsNoMore message (Fetching id coming whole) after error
unfolding ErrsFetching
hears_why message id coming whole (EndFailed code) {after} error octets may errs says accepted not
    =
    let taken = taken_says may in
    fails code (kept_failed may) errs (λ other. (
      accepted,
      unfinished after id other
          (ap (λ (handed : List Handed). ends_message (parts_on id handed)) taken.handed ∙ not),
    ))
hears_why message id coming whole (EndTook count None) error octets may errs says accepted not =
    absurd errs
hears_why message id coming whole (EndTook count (Some handed)) {after} error octets may
    (inl memory) says accepted not =
    gives_up says.1 (
      accepted,
      subst (λ (one : LinkError). EndsUnfinished after id (Err one)) (sym memory.0) tt,
    ) (inl memory.0)
hears_why message id coming whole {end} (EndTook count (Some handed)) {after} error octets may
    (inr (inl reset)) says accepted not =
    let taken = taken_says may in
    let last = taken.handed ∙ ap (λ (one : Handed). one ∷ end.handed) reset.2 in
    gives_up says.1 (
      accepted,
      unfinished after id error (ap ends_message (passed_parts id _ end.handed last) ∙ not),
    ) (inr (λ writes. (
      reset.0,
      reset.3,
      inl (reset.1, handed_last _ end.handed last),
    )))
hears_why message id coming whole {end} (EndTook count (Some handed)) {after} error octets may
    (inr (inr left)) says accepted not =
    let taken = taken_says may in
    let last = taken.handed ∙ ap (λ (one : Handed). one ∷ end.handed) left.0 in
    gives_up says.1 (
      accepted,
      unfinished after id error (ap ends_message (passed_parts id _ end.handed last) ∙ not),
    ) (inr (λ writes. (
      refused_stream,
      left.1,
      inr (refl, handed_last _ end.handed last),
    )))

pub client_hears_last : (old new : End) (id : ℕ) (coming now_come : Coming) (whole : Bool)
    (piece : List ℕ) (error : LinkError) → ClientHears old new id coming now_come piece (Err error)
    → Hears (client_with old id coming whole) (client_with new id now_come whole) piece (Err error)
unfolding FetchedSo Keeps
client_hears_last old new id coming now_come whole piece error hears course now end is =
    let now_is = hears course.values end is.represents (fetching_role is.happened) is.keeps.1 in
    let says = now_is.2 in
    let taken = taken_says says.1 in (
      now_is.0,
      hears_last (client_with new id now_come whole) error is says.1 now_is.1
          (takes is.happened piece says.0 says.1) (λ octets used. hears_why course.message id
          now_come whole says.0 error octets says.1 says.2 used
          (ap (said_for id) taken.accepted ∙ is.keeps.0) (come_not_whole is.keeps.1)),
    )

-- Nothing is due at a client.
none_due : (message : SentMessage) (id : ℕ) (coming : Coming) (whole : Bool) (end : EndLog)
    (due : Next) → IsDue due → Keeps message (Fetching id coming whole) end due → ⊥
unfolding Keeps
none_due message id coming whole end (nexts.Answer stream request) is keeps = keeps
none_due message id coming whole end (nexts.Reset stream) is keeps = keeps
none_due message id coming whole end due is keeps = is

pub client_acts : (end : End) (id : ℕ) (coming : Coming) (whole : Bool) (due : Next)
    (result : Result (Unit {0}) LinkError)
    → Responds (client_with end id coming whole) (client_with end id coming whole) due result
client_acts end id coming whole due result writes course now log unused is none driven =
    absurd (none_due course.message id coming whole log due is driven.keeps)
