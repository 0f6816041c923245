-- What `respond` and `begin` of a server may answer, by what an end keeps of the stream.
use Rattle.h2_ends.proofs.Names
use Names.{◌≡◌, ◌≢◌, ◌⊎◌, ℕ, Bool, true, false, Option, Some, None, refl, sym, ◌∙◌, inl, both_ways}
use Names.{Refusal, Client, Values, Done, is_too_large, active, MayAnswer, IsOver, Malformed, Said}
use Names.{trailer_fields, End, Outgoing, Stream, EndLog, said_for, end_with_said, parts_on}
use Names.{RefusesMessage, EndRepresents, IsStream, kept_at, inr, sameb, the_type, IsKept}
use Names.{IsOutgoing, SentMessage, broken_by_response}
use Rattle.h2_ends.specs.EndCalls.{IsAsked, IsUnchanged, MayReply, IsNotAsked, answered_with}
use Rattle.h2_ends.specs.EndCalls.{broken_by_answer}
use Rattle.h2_ends.specs.Heads.{AsksOn}
use Rattle.h2_ends.specs.declared.refusal.EndRefusal.{EndRefusal}
use Rattle.h2_message.specs.Phases.{asks_head_first}
use Rattle.std.specs.Prelude.{Ok, Err}
use Rattle.h2_ends.proofs.RequestHeads.{server_reads}
use Rattle.h2_ends.proofs.RequestSends.{is_server_by}
use Rattle.h2_ends.specs.declared.outgoing.Outgoing.TheVariants as outgoings
use Rattle.h2_ends.specs.declared.refusal.EndRefusal.TheVariants as refusals

-- E3, where nothing is kept of the stream, and at a client.
pub nothing_asked : (end : EndLog) (id : ℕ) → IsOver end.log id ⊎ IsKept end id None
    → IsNotAsked end id
unfolding IsKept IsNotAsked
nothing_asked end id (inl past) = inl past.not_active
nothing_asked end id (inr kept) = inr (inl kept.unread)

pub client_asked : (end : EndLog) (id : ℕ) → end.log.role ≡ Client → IsNotAsked end id
unfolding IsNotAsked
client_asked end id client = inr (inr client)

-- What is kept of a stream that is active at a server.
pub kept_stream : (end : EndLog) (id : ℕ) (stream : Stream) → active end.log id ≡ true
    → IsOver end.log id ⊎ IsKept end id (Some stream) → IsStream end id stream
unfolding IsKept
kept_stream end id stream alive (inl past) = absurd (both_ways _ past.not_active alive)
kept_stream end id stream alive (inr kept) = kept

-- What is kept is kept of an active stream, on which a request was handed out.
pub asked_here : (values : Values) (now : End) (end : EndLog) (id : ℕ) (stream : Stream)
    → Some stream ≡ kept_at id now.streams.entries → EndRepresents values now end
    → sameb the_type now.role Client ≡ false → IsAsked end id × IsStream end id stream
asked_here values now end id stream was is other =
    let alive = is.active id (λ none. let wrong = was ∙ none in cc) in
    let kept = kept_stream end id stream alive (rw (← was) at (is.streams.streams id)) in
    let server = sym is.streams.role ∙ is_server_by now.role other in
    (record { active = alive; handed = kept.asked server; server = server }, kept)

-- E4, where a message is kept of it.
pub accepted_by : (end : EndLog) (id : ℕ) (outgoing : Outgoing)
    → (outgoing ≡ outgoings.NotGiven → ⊥) → IsOutgoing end id outgoing
    → said_for id end.accepted ≢ None
unfolding IsOutgoing
accepted_by end id outgoings.NotGiven given is = absurd (given refl)
accepted_by end id (outgoings.Open rest) given is = λ none. let some = is.accepted in cc
accepted_by end id (outgoings.Waiting waiting) given is = λ none. let some = is.accepted in cc
accepted_by end id outgoings.Sent given is = λ none. let some = is.accepted in cc

pub not_accepted : (end : EndLog) (id : ℕ) (outgoing : Outgoing) → outgoing ≡ outgoings.NotGiven
    → IsOutgoing end id outgoing → said_for id end.accepted ≡ None
unfolding IsOutgoing
not_accepted end id outgoings.NotGiven given is = is.0
not_accepted end id (outgoings.Open rest) given is = cc
not_accepted end id (outgoings.Waiting waiting) given is = cc
not_accepted end id outgoings.Sent given is = cc

-- Whether what was read asks with HEAD.
pub asks_alike : (end : EndLog) (id : ℕ) (stream : Stream) → IsAsked end id
    → IsStream end id stream
    → stream.reading.asks_head ≡ asks_head_first (parts_on id end.handed)
asks_alike end id stream asked is =
    is.reading.asks_head (server_reads end id asked.server)

-- So the rule that a message breaks is that of an answer to what was read.
pub broken_alike : (end : EndLog) (id : ℕ) (message : SentMessage) {to_head : Bool}
    {broken : Option Malformed} → to_head ≡ asks_head_first (parts_on id end.handed)
    → broken_by_response to_head message ≡ broken → broken_by_answer end id message ≡ broken
broken_alike end id message same is = rw same at is

module _ (broken : Option Malformed) (end : EndLog) (id : ℕ) (said : Said) where
  -- E3 and E4.
  pub replies_not : (refusal : EndRefusal) → AsksOn end id (Err refusal)
      → MayReply broken end id said (Err refusal) end
  unfolding MayReply
  replies_not refusals.NotAsked is = (is, refl)
  replies_not refusals.Answered is = (is.0, is.1, refl)
  replies_not (refusals.BadMessage rule) is = absurd is
  replies_not (refusals.Conn refusal) is = absurd is

  -- E1.
  pub breaks_reply : (rule : Malformed) → IsAsked end id → said_for id end.accepted ≡ None
      → broken ≡ Some rule → MayReply broken end id said (Err (refusals.BadMessage rule)) end
  unfolding MayReply
  breaks_reply rule asked unsaid is = (asked, unsaid, is, refl)

  -- E2.
  pub refuses_reply : (after : EndLog) (refusal : Refusal) → IsAsked end id
      → said_for id end.accepted ≡ None → broken ≡ None
      → RefusesMessage end.log (answered_with id said) said.message refusal
      → IsUnchanged end after → MayReply broken end id said (Err (refusals.Conn refusal)) after
  unfolding MayReply
  refuses_reply after refusal asked unsaid unbroken refuses unchanged =
      (asked, unsaid, unbroken, refuses, unchanged)

  -- The head was sent.
  pub may_reply : IsAsked end id → said_for id end.accepted ≡ None → broken ≡ None
      → is_too_large (trailer_fields said.message.trailers) ≡ false
      → MayAnswer end.log (answered_with id said) Done
      → MayReply broken end id said (Ok tt)
      (end_with_said end (answered_with id said) Done id said)
  unfolding MayReply
  may_reply asked unsaid unbroken fits answers =
      (asked, unsaid, unbroken, fits, answers, refl)
